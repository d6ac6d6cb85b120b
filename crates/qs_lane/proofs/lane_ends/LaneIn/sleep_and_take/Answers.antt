use Rattle.std.proofs.Common.{false, subst}
use Rattle.qs_chunk.proofs.LaneFronts.{MayFollow-last}
use Rattle.qs_chunk.specs.audit.Lanes.{is_asked}
use Rattle.qs_chunk.specs.Lanes.{MayFollow}
use Rattle.qs_lane.specs.Views.{InView}
use Rattle.qs_lane.proofs.lane_ends.LaneIn.sleep_and_take.Goals as goal

pub returns-clause-follows : goal.returns-clause-follows
returns-clause-follows g c =
    let d = c.self.inside.down in
    subst (λ (v : InView). MayFollow v.size (is_asked false v.received) c.take_or_sleep_at.result) c.self.view_is (MayFollow-last d.key false d.received c.take_or_sleep_at.result c.take_or_sleep_at.ensures.good)
