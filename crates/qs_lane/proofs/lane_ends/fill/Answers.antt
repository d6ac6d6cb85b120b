use Rattle.std.proofs.Common.{rules}
use Rattle.qs_lane.proofs.Stock.{one_more}
use Rattle.qs_lane.proofs.lane_ends.fill.Goals as goal

pub push-requires-clause-good : goal.push-requires-clause-good
push-requires-clause-good g c = search (rules, one_more)
