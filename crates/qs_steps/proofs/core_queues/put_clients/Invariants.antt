-- The clients before this one are there.
use Rattle.std.proofs.Common.{◌≡◌, ◌++◌}
use Rattle.qs_steps.proofs.Names.{client_of, codes_of, core_of, numbered}
use Rattle.qs_steps.proofs.core_queues.put_clients.Given as goal

abbrev pub invariant-loop-client : goal.invariant-loop-client
invariant-loop-client l =
    l.out.items ≡ l.initial.out.items ++ numbered l.form (client_of l.form l.program (codes_of l.core) l.core.size (core_of l.core)) l.client
