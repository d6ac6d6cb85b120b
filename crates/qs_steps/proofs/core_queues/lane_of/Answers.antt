use Rattle.std.proofs.Common.{ap, arith, subst, sym, ◌∙◌}
use Rattle.qs_core.specs.parts.LaneStates.{lane_at}
use Rattle.qs_core.specs.state.CoreState.{core_of}
use Rattle.qs_core.specs.CoreEffects.{IsLaneOf}
use Rattle.qs_steps.proofs.core_queues.lane_of.Goals as goal

pub lane-requires : goal.lane-requires
lane-requires c = omega (arith, c.requires.handler, c.from.ensures, c.client.ensures.many)

pub returns : goal.returns
returns c = record {
  lane = subst (IsLaneOf (core_of c.args.core.now) c.args.client c.args.handler) (sym (c.lane.ensures.value ∙ ap (lane_at c.client.result.now.lanes) c.from.ensures)) (c.client.ensures.lanes c.args.handler);
}
