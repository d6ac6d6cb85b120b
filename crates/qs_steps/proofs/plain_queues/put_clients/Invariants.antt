-- The clients before this one are there.
use Rattle.std.proofs.Common.{◌≡◌, ◌++◌}
use Rattle.qs_steps.proofs.Names.{numbered, plain_of}
use Rattle.qs_steps.specs.PlainQueues.{client_of}
use Rattle.qs_steps.proofs.plain_queues.put_clients.Given as goal

abbrev pub invariant-loop-client : goal.invariant-loop-client
invariant-loop-client l = l.out.items ≡ l.initial.out.items ++ numbered l.form (client_of l.form l.program (plain_of l.rules)) l.client
