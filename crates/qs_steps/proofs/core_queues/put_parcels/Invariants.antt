-- The parcels before this place are there, and the machine is as it was.
use Rattle.std.proofs.Common.{◌≡◌, ◌++◌, take}
use Rattle.qs_steps.proofs.Names.{core_of, parcels_in}
use Rattle.qs_steps.proofs.core_queues.put_parcels.Given as goal

abbrev pub invariant-loop-place : goal.invariant-loop-place
invariant-loop-place l = record {
  text : l.out.items ≡ l.initial.out.items ++ parcels_in l.form l.program (take l.place ((core_of l.initial.core).down l.client l.handler));
  same : l.core ≡ l.initial.core;
}
