use Rattle.std.proofs.Common.{◌≡◌}
use Rattle.qs_queue.proofs.tests.take_all.Given as goal

abbrev pub invariant-loop-value : goal.invariant-loop-value
invariant-loop-value g l = l.taker.name ≡ l.initial.taker.name
