-- The lanes to the handlers so far are joined and taken out of their places; the later ones are as they were.
use Rattle.std.proofs.Common.{◌≡◌, ◌<◌, ◌≤◌, ℕ, Some, slice_get}
use Rattle.qs_run.specs.client.ClientThreads as running
use Rattle.qs_run.specs.handler.HandlerThreads as handling
use Rattle.qs_run.proofs.Names.{HandlerWorker, AreEndsJoined, without_lane_of}
use Rattle.qs_run.proofs.ListPlaces.{map_front}
use Rattle.qs_run.proofs.collect.lanes.join_lanes.Given as goal

abbrev pub invariant-loop-handler : goal.invariant-loop-handler
invariant-loop-handler g l = record {
  handlers : l.handlers ≡ map_front (without_lane_of l.client) l.handler l.initial.handlers;
  lanes : (h : ℕ) → l.handler ≤ h → running.out_lane_at l.lanes h ≡ running.out_lane_at l.initial.lanes h;
  joined : (h : ℕ) (r : HandlerWorker _) → slice_get l.initial.handlers h ≡ Some r → h < l.handler
      → AreEndsJoined (running.out_lane_at l.initial.lanes h) (handling.in_lane_at r.lanes l.client);
}
