-- That the code's results are what is read.
use Rattle.std.specs.Borrow.{Bor}
use Rattle.std.specs.Prelude.{◌≡◌, ℕ, List, Option, Some, None, Result, Ok, Err}
use Rattle.qs_script.specs.declared.tokens.token.Token.{Token}
use Rattle.qs_script.specs.declared.fault.TreeFault.{TreeFault}
use Rattle.qs_script.specs.declared.fault.TreeFault.TheVariants.{Form, Memory}
use Rattle.qs_script.specs.audit.tree.Tree.{Stmts}
use Rattle.qs_script.specs.grammar.Reading.{Read, onto}

-- no reading goes on at a token, and so many are left there; unless memory ran out
abbrev pub Fails : {Y : Type 0} → TreeFault → Result Y ℕ → Type 0
Fails (Form left) read = read ≡ Err left
Fails Memory read = Unit {0}

-- the code's result is what is read
abbrev pub Gives : {X Y : Type 0} → (X → Y) → Result X TreeFault → Result Y ℕ → Type 0
Gives view (Ok x) read = read ≡ Ok (view x)
Gives view (Err f) read = Fails f read

-- what is read is added to the statements of before, and the code's result is what is left
abbrev pub Puts : Stmts → Stmts → Result (Bor (List Token)) TreeFault → Read Stmts → Type 0
Puts old new (Ok rest) read = onto old read ≡ Ok (new, rest.now)
Puts old new (Err f) read = Fails f read

-- the code finds what is read
abbrev pub Finds : {X Y : Type 0} → (X → Y) → Option X → Option Y → Type 0
Finds view (Some x) read = read ≡ Some (view x)
Finds view None read = read ≡ None
