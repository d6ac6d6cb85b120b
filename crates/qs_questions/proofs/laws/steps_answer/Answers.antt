use Rattle.qs_questions.proofs.Sought.{steps_answer}
use Rattle.qs_questions.proofs.laws.steps_answer.Goals as goal

pub returns : goal.returns
returns c = record { steps = steps_answer }
