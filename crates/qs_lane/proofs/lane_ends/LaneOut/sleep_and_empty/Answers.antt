use Rattle.std.proofs.Common.{[], ap, ◌∙◌}
use Rattle.qs_chunk.specs.audit.Batch.{batch}
use Rattle.qs_lane.specs.Views.{OutView}
use Rattle.qs_lane.proofs.Spared.{empty_last}
use Rattle.qs_lane.proofs.lane_ends.LaneOut.sleep_and_empty.Goals as goal

pub returns-clause-empty : goal.returns-clause-empty
returns-clause-empty g c = empty_last _ _ _ c.take_or_sleep_as_waiter.ensures.good ∙ ap (batch []) (c.self.invariant.1 ∙ ap (λ (v : OutView). v.size) c.self.view_is)
