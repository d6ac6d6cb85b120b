use Rattle.std.proofs.Common.{◌≡◌}
use Rattle.qs_queue.proofs.queue_ends.Taker.sleep_and_take.Given as goal

abbrev pub invariant-loop : goal.invariant-loop
invariant-loop g l = l.self ≡ l.fn.self
