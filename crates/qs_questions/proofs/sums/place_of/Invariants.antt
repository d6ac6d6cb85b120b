-- The values before this place are less.
use Rattle.std.proofs.Common.{take}
use Rattle.qs_questions.specs.Noting.{AreBelow}
use Rattle.qs_questions.proofs.sums.place_of.Given as goal

abbrev pub invariant-loop-place : goal.invariant-loop-place
invariant-loop-place l = AreBelow l.number (take l.place l.values)
