use Rattle.std.proofs.Common.{◌≡◌}
use Rattle.qs_chunk.specs.Ring.{IsRing}
use Rattle.qs_chunk.proofs.cells.Room.drop_values.Given as goal

abbrev pub invariant-loop-left : goal.invariant-loop-left
invariant-loop-left g l = IsRing l.self.places l.capacity l.first l.left × (l.self.giver ≡ l.fn.self.giver)

abbrev pub decreases-loop-left : goal.decreases-loop-left
decreases-loop-left g l = l.left
