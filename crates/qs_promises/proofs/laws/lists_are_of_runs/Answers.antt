use Rattle.qs_promises.proofs.Ending.{alike_lists_of_runs, lists_of_runs}
use Rattle.qs_promises.proofs.Passing.{fronts_of_runs}
use Rattle.qs_promises.proofs.laws.lists_are_of_runs.Goals as goal

pub returns : goal.returns
returns c = record { lists = lists_of_runs; alike = alike_lists_of_runs; fronts = fronts_of_runs }
