-- The tickets before this one are there.
use Rattle.std.proofs.Common.{◌≡◌, ◌++◌, take}
use Rattle.qs_steps.proofs.core_queues.push_all.Given as goal

abbrev pub invariant-loop-ticket : goal.invariant-loop-ticket
invariant-loop-ticket l = l.all.items ≡ l.initial.all.items ++ take l.ticket-index l.tickets
