use Rattle.qs_chunk.proofs.LaneRuns.{lane_run_laws}
use Rattle.qs_chunk.proofs.laws.lane_runs_go_on.Goals as goal

pub returns : goal.returns
returns c = record { runs = lane_run_laws }
