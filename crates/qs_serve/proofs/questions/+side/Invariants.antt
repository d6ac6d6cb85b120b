-- Each half has fewer questions.
use Prim.Native.Nat.{◌+◌, ◌*◌}
use Rattle.std.proofs.Common.{length}
use Rattle.qs_serve.proofs.questions.+side.Given as goal

abbrev pub decreases-due_side_by_side : goal.decreases-due_side_by_side
decreases-due_side_by_side g l = 2 * length l.asked.questions.now

abbrev pub decreases-one : goal.decreases-one
decreases-one g l = 2 * length l.first.questions.now + 1

abbrev pub decreases-other : goal.decreases-other
decreases-other g l = 2 * length l.second.questions.now + 1
