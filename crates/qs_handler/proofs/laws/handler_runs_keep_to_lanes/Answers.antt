use Rattle.qs_handler.proofs.Runs.{handler_run_laws}
use Rattle.qs_handler.proofs.laws.handler_runs_keep_to_lanes.Goals as goal

pub returns : goal.returns
returns c = record { runs = handler_run_laws }
