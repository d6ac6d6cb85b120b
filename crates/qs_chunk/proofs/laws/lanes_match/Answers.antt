use Rattle.qs_chunk.proofs.LaneMatch.{lanes_match}
use Rattle.qs_chunk.proofs.laws.lanes_match.Goals as goal

pub returns : goal.returns
returns c = record { agree = lanes_match }
