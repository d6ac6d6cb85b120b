use Rattle.std.proofs.Common.{◌≡◌, [], drop}
use Rattle.qs_questions.proofs.Common.{configuration_in, outcome_in}
use Rattle.qs_questions.specs.Answering.{run_steps}
use Rattle.qs_questions.specs.Questions.{value_at}
use Rattle.qs_questions.proofs.asking.holds.Given as goal

abbrev pub invariant-loop-step : goal.invariant-loop-step
invariant-loop-step l =
    run_steps (value_at l.program (outcome_in (configuration_in l.standing))) (drop l.step-index l.condition) l.answers
    ≡ run_steps (value_at l.program (outcome_in (configuration_in l.standing))) l.condition []
