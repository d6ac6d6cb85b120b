-- The tickets before this place are there.
use Rattle.std.proofs.Common.{◌≡◌, ◌++◌, take}
use Rattle.qs_steps.proofs.Names.{listed, waiting_in}
use Rattle.qs_steps.proofs.core_queues.put_tickets.Given as goal

abbrev pub invariant-loop-place : goal.invariant-loop-place
invariant-loop-place l = l.out.items ≡ l.initial.out.items ++ listed l.form (waiting_in l.form l.program) (take l.place l.tickets)
