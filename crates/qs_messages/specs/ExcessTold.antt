-- What is said of the block with which a script passes a limit.
use Rattle.std.specs.Prelude.{ℕ, ◌+◌, ◌-◌, ◌^◌, min, Bool, true, false, nat_eq, nat_lt, if◌then◌else◌, List, [], ◌++◌, Option, Some, codes, decimal}
use Rattle.qs_script.specs.declared.tokens.token.Token.{Token}
use Rattle.qs_script.specs.declared.tokens.token.Token.TheVariants as t
use Rattle.qs_check.specs.declared.excess.Measure.{Measure}
use Rattle.qs_check.specs.declared.excess.Measure.TheVariants.{Load, Weight}
use Rattle.qs_check.specs.declared.excess.Excess.{Excess}
use Rattle.qs_check.specs.Excess.{limit_by}

-- what a block can do, and in what it is counted
abbrev pub can_text : Measure → List ℕ
can_text Load = codes " can make "
can_text Weight = codes " can take "

abbrev pub unit_text : Measure → List ℕ
unit_text Load = codes " requests"
unit_text Weight = codes " steps"

-- how often at most; of a count past the limit, that it is more than the limit
abbrev pub count_text : Excess → List ℕ
count_text e =
    can_text e.measure ++ (if nat_lt (limit_by e.measure) e.count then codes "more than " else [])
    ++ decimal (min e.count (limit_by e.measure)) ++ unit_text e.measure

-- what the blocks before it can do; nothing where it is the first
abbrev pub before_text : Excess → List ℕ
before_text e = if nat_eq e.before 0 then [] else codes ", and those before it " ++ decimal e.before

-- a block begins at this token
abbrev pub begins_block : Option Token → Bool
begins_block (Some t.Separate) = true
begins_block _ = false

-- which block it is: the one that begins here, or one of the client that is started here, counted from 1
abbrev pub block_text : Bool → Excess → List ℕ
block_text begins e =
    if begins then codes "this block" else codes "block " ++ decimal (min (e.block + 1) (2 ^ 64 - 1))
    ++ codes " of this client"

abbrev pub label_text : Option Token → Excess → List ℕ
label_text token e = block_text (begins_block token) e ++ count_text e ++ before_text e

-- which limit is passed
abbrev pub cause_text : Measure → List ℕ
cause_text m =
    codes "the blocks of this script" ++ can_text m ++ codes "more than " ++ decimal (limit_by m) ++ unit_text m
    ++ codes " in all"

abbrev pub help_text : Measure → List ℕ
help_text Load = codes "a `repeat N` counts its body N times, and an `if` the greater of its two bodies"
help_text Weight = codes "a `repeat N` counts its body N times and one more, and an `if` the greater of its two bodies"
