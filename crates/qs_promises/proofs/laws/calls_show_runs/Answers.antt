use Rattle.qs_promises.proofs.Calls.{outcomes_are_runs, played_are_runs, played_in_are_runs}
use Rattle.qs_promises.proofs.laws.calls_show_runs.Goals as goal

pub returns : goal.returns
returns c = record { rules = played_are_runs; machine = played_in_are_runs; threads = outcomes_are_runs }
