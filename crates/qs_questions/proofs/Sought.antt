-- The steps of a claim's condition answer what the condition says.
use Rattle.std.proofs.Common.{ap, ◌∙◌, []}
use Rattle.qs_conditions.specs.Claims.{seeks}
use Rattle.qs_questions.specs.Answering.{answer_of, last_of}
use Rattle.qs_questions.specs.Claims.{StepsAnswer}
use Rattle.qs_questions.specs.Questions.{value_at}
use Rattle.qs_questions.proofs.Running.{run_tree}

pub steps_answer : StepsAnswer
steps_answer p o claim tree e =
    ap (seeks claim.quantifier) (ap (answer_of (value_at p o)) e ∙ ap last_of (run_tree (value_at p o) tree []))
