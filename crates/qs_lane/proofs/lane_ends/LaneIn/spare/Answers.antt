use Rattle.std.proofs.Common.{rules}
use Rattle.qs_lane.proofs.Spared.{empty_more, sent_or_back}
use Rattle.qs_lane.proofs.lane_ends.LaneIn.spare.Goals as goal

pub try_send-requires : goal.try_send-requires
try_send-requires g c = search (rules, empty_more)

pub invariant_of-self : goal.invariant_of-self
invariant_of-self g c = search (rules, empty_more, sent_or_back)
