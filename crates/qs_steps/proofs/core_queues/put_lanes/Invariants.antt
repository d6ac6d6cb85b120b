-- The lanes of the clients before this one are there, and the machine is as it was.
use Rattle.std.proofs.Common.{◌≡◌, ◌++◌}
use Rattle.qs_steps.proofs.Names.{core_of, lane_in, numbered}
use Rattle.qs_steps.proofs.core_queues.put_lanes.Given as goal

abbrev pub invariant-loop-client : goal.invariant-loop-client
invariant-loop-client l = record {
  text : l.out.items ≡ l.initial.out.items ++ numbered l.form (λ c. lane_in l.form l.program c ((core_of l.initial.core).down c l.handler)) l.client;
  same : l.core ≡ l.initial.core;
}
