use Rattle.std.proofs.Common.{◌≡◌}
use Rattle.qs_queue.proofs.queue_ends.Sender.send.Given as goal

abbrev pub invariant-loop : goal.invariant-loop
invariant-loop g l = (l.value ≡ l.initial.value) × (l.self ≡ l.initial.self)
