-- Each turn of the loop joins the lane to one handler and leaves the later ones as they were, so in the end all lanes
-- of the client are joined.
use Rattle.std.proofs.Common.{◌≡◌, ◌≢◌, ◌<◌, None, Some, length, slice_get, ap, ◌∙◌, arith, below_more}
use Rattle.qs_run.proofs.Names.{AreEndsJoined, HandlerWorker, get_or-set_other, slice_get_within, without_lane_of}
use Rattle.qs_run.specs.client.ClientThreads as running
use Rattle.qs_run.specs.handler.HandlerThreads as handling
use Rattle.qs_run.proofs.LanesTaken.{joined_here, paired_here, taken_here}
use Rattle.qs_run.proofs.ListPlaces.{front_all, map_front}
use Rattle.qs_run.proofs.collect.lanes.join_lanes.Goals as goal

pub join_lane-requires-clause-lane : goal.join_lane-requires-clause-lane
join_lane-requires-clause-lane g c =
    let n = c.loop-handler.handler in
    let lt : n < length c.loop-handler.handlers = omega (arith, c.loop-handler-test.true, c.loop-handler.auto.handlers, c.loop-handler.auto.handler-end) in
    paired_here c.args.client n c.args.lanes c.loop-handler.lanes c.args.handlers.now c.loop-handler.handlers c.index-handlers-handler.result
    c.loop-handler.invariant.handlers (c.loop-handler.invariant.lanes n (omega arith)) lt c.index-handlers-handler.is c.requires.paired

pub loop-handler-preserved : goal.loop-handler-preserved
loop-handler-preserved g c =
    let n = c.loop-handler.handler in
    let inv = c.loop-handler.invariant in
    let x = c.index-handlers-handler.result in
    let still = inv.lanes n (omega arith) in
    let lt : n < length c.loop-handler.handlers = omega (arith, c.loop-handler-test.true, c.loop-handler.auto.handlers, c.loop-handler.auto.handler-end) in
    record {
      handlers = taken_here c.args.client n c.args.lanes c.loop-handler.lanes c.args.handlers.now c.loop-handler.handlers x inv.handlers still lt
          c.index-handlers-handler.is c.join_lane.new.worker c.join_lane.ensures.worker;
      lanes = λ h le.
          ap (λ zs. running.out_lane_at zs h) c.join_lane.ensures.lanes
          ∙ (get_or-set_other c.loop-handler.lanes n h None None (let apart : h ≢ n = omega (arith, le) in apart) ∙ inv.lanes h (omega (arith, le)));
      joined = λ h r e less.
          below_more (λ k. (r : HandlerWorker _) → slice_get c.args.handlers.now k ≡ Some r → AreEndsJoined (running.out_lane_at c.args.lanes k) (handling.in_lane_at r.lanes c.args.client))
          n (λ k few r e. inv.joined k r e few)
          (joined_here c.args.client n c.args.lanes c.loop-handler.lanes c.args.handlers.now c.loop-handler.handlers x inv.handlers still lt
          c.index-handlers-handler.is c.join_lane.ensures.joined) h less r e;
    }

pub returns-clause-joined : goal.returns-clause-joined
returns-clause-joined g c = λ h r e.
    let inside = slice_get_within c.args.handlers.now h r e in
    c.loop-handler.invariant.joined h r e (omega (arith, inside, c.loop-handler-test.false, c.loop-handler.auto.handlers, c.loop-handler.auto.handler-end))

pub returns-clause-lanes_taken : goal.returns-clause-lanes_taken
returns-clause-lanes_taken g c =
    let all : c.loop-handler.handler ≡ length c.args.handlers.now =
    omega (arith, c.loop-handler-test.false, c.loop-handler.auto.handlers, c.loop-handler.auto.handler-end) in
    c.loop-handler.invariant.handlers ∙ (ap (λ m. map_front (without_lane_of c.args.client) m c.args.handlers.now) all ∙ front_all (without_lane_of c.args.client) c.args.handlers.now)
