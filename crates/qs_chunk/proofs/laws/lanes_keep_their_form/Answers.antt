use Rattle.qs_chunk.proofs.LaneFronts.{lane_laws}
use Rattle.qs_chunk.proofs.laws.lanes_keep_their_form.Goals as goal

pub returns : goal.returns
returns c = record { form = lane_laws }
