-- That the code's results are the signs.
use Rattle.std.specs.Prelude.{◌≡◌, ℕ, List, Err}
use Rattle.qs_conditions.specs.declared.fault.ConditionFault.{ConditionFault}
use Rattle.qs_conditions.specs.declared.fault.ConditionFault.TheVariants as f
use Rattle.qs_conditions.specs.Signs.{signs_of}

-- the first fault of a text, unless memory ran out
abbrev pub IsFaultOf : List ℕ → ConditionFault → Type 0
IsFaultOf text (f.Byte place) = signs_of text ≡ Err (f.Byte place)
IsFaultOf text (f.Number place) = signs_of text ≡ Err (f.Number place)
IsFaultOf text (f.Name place) = signs_of text ≡ Err (f.Name place)
IsFaultOf text (f.Form place) = ⊥
IsFaultOf text f.Memory = Unit {0}
