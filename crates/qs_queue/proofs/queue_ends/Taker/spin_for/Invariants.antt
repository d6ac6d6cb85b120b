use Rattle.std.proofs.Common.{◌≡◌}
use Rattle.qs_queue.proofs.queue_ends.Taker.spin_for.Given as goal

abbrev pub invariant-loop-spin : goal.invariant-loop-spin
invariant-loop-spin g l = l.self ≡ l.fn.self
