-- The values are those of the ends before this one.
use Rattle.std.proofs.Common.{take}
use Rattle.qs_questions.specs.SumValues.{AreValuesIn, sums_at}
use Rattle.qs_questions.proofs.sums.values_of.Given as goal

abbrev pub invariant-loop-place : goal.invariant-loop-place
invariant-loop-place l = AreValuesIn (sums_at l.program l.sum (take l.place l.ends)) l.values.items
