use Rattle.qs_handler.proofs.LaneTurns.{handler_lane_laws}
use Rattle.qs_handler.proofs.laws.handlers_keep_to_lanes.Goals as goal

pub returns : goal.returns
returns c = record { lanes = handler_lane_laws }
