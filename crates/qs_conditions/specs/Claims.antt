-- Of what a condition is to hold.
use Rattle.std.specs.Prelude.{ℕ, Bool, not, List, codes}
use Rattle.qs_conditions.specs.declared.claim.Quantifier.{Quantifier}
use Rattle.qs_conditions.specs.declared.claim.Quantifier.TheVariants as q

-- the word of a quantifier
abbrev pub word : Quantifier → List ℕ
word q.Always = codes "always"
word q.Some = codes "some"
word q.Throughout = codes "throughout"
word q.Ever = codes "ever"
word q.Never = codes "never"

-- whether an outcome is looked for, by whether the condition holds of it: one of which it holds, or one of which it
-- does not
abbrev pub seeks : Quantifier → Bool → Bool
seeks q.Always holds = not holds
seeks q.Some holds = holds
seeks q.Throughout holds = not holds
seeks q.Ever holds = holds
seeks q.Never holds = holds

-- the answer, by whether one that is looked for was found
abbrev pub answer_by : Quantifier → (found : Bool) → Bool
answer_by q.Always found = not found
answer_by q.Some found = found
answer_by q.Throughout found = not found
answer_by q.Ever found = found
answer_by q.Never found = not found
