use Rattle.qs_promises.proofs.Answering.{answers_of_runs}
use Rattle.qs_promises.proofs.laws.answers_are_of_runs.Goals as goal

pub returns : goal.returns
returns c = record { answers = answers_of_runs }
