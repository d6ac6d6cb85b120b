-- That the code's results are what is read.
use Rattle.std.specs.Borrow.{Bor}
use Rattle.std.specs.Prelude.{◌≡◌, ℕ, List, ◌++◌, Option, Some, None, Result, Ok, Err}
use Rattle.qs_conditions.specs.declared.signs.Placed.{Placed}
use Rattle.qs_conditions.specs.declared.condition.Step.{Step}
use Rattle.qs_conditions.specs.declared.fault.SignFault.{SignFault}
use Rattle.qs_conditions.specs.declared.fault.SignFault.TheVariants.{Form, Memory}
use Rattle.qs_conditions.specs.Conditions.{Tree, steps_of}
use Rattle.qs_conditions.specs.Reading.{Read, tree_of}

-- no reading goes on at a sign, and so many are left there; unless memory ran out
abbrev pub Fails : {Y : Type 0} → SignFault → Result Y ℕ → Type 0
Fails (Form left) read = read ≡ Err left
Fails Memory read = Unit {0}

-- the code's result is what is read
abbrev pub Gives : {X Y : Type 0} → (X → Y) → Result X SignFault → Result Y ℕ → Type 0
Gives view (Ok x) read = read ≡ Ok (view x)
Gives view (Err f) read = Fails f read

-- the steps of a tree that is read are added to those of before, and the code's result is what is left
abbrev pub Adds : List Step → List Step → Result (Bor (List Placed)) SignFault → Read Tree → Type 0
Adds old new (Ok rest) read = (c : Tree) × (read ≡ Ok (c, rest.now)) × (new ≡ old ++ steps_of c)
Adds old new (Err f) read = Fails f read

-- the code finds what is found
abbrev pub Finds : {X Y : Type 0} → (X → Y) → Option X → Option Y → Type 0
Finds view (Some x) read = read ≡ Some (view x)
Finds view None read = read ≡ None

-- the code's result is the steps of the tree of all the signs
abbrev pub IsWhole : List Placed → Result (List Step) SignFault → Type 0
IsWhole ts (Ok steps) = (c : Tree) × (tree_of ts ≡ Ok c) × (steps ≡ steps_of c)
IsWhole ts (Err f) = Fails f (tree_of ts)
