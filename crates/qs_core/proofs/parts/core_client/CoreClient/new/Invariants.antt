use Rattle.std.proofs.Common.{◌≡◌, ◌≤◌, replicate, vec_len, vec_capacity}
use Rattle.qs_core.specs.parts.LaneStates.{fresh_lane}
use Rattle.qs_core.proofs.parts.core_client.CoreClient.new.Given as goal

abbrev pub invariant-loop-handler : goal.invariant-loop-handler
invariant-loop-handler l = record {
  lanes : l.lanes.items ≡ replicate l._handler (fresh_lane l.size);
  len : vec_len l.lanes ≡ l._handler;
  room : l.handlers ≤ vec_capacity l.lanes;
}
