-- The private queues before this place are there.
use Rattle.std.proofs.Common.{◌≡◌, ◌++◌, take}
use Rattle.qs_steps.proofs.Names.{QueueState, listed, private_in}
use Rattle.qs_steps.proofs.plain_queues.put_privates.Given as goal

abbrev pub invariant-loop-place : goal.invariant-loop-place
invariant-loop-place l = l.out.items ≡ l.initial.out.items ++ listed l.form (λ (q : QueueState). private_in l.form l.program q.queue) (take l.place l.queues)
