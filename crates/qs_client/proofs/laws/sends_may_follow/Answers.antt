use Rattle.qs_client.proofs.LaneSends.{client_lane_laws}
use Rattle.qs_client.proofs.laws.sends_may_follow.Goals as goal

pub returns : goal.returns
returns c = record { lanes = client_lane_laws }
