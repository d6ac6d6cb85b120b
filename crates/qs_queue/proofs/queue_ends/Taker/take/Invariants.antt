use Rattle.std.proofs.Common.{◌≡◌}
use Rattle.qs_queue.proofs.queue_ends.Taker.take.Given as goal

abbrev pub invariant-loop : goal.invariant-loop
invariant-loop g l = l.self ≡ l.fn.self
