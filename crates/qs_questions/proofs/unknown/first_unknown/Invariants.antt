use Rattle.std.proofs.Common.{◌≡◌, drop}
use Rattle.qs_questions.specs.Questions.{first_unknown_in}
use Rattle.qs_questions.proofs.unknown.first_unknown.Given as goal

abbrev pub invariant-loop-step : goal.invariant-loop-step
invariant-loop-step l =
    first_unknown_in l.program (drop l.step-index l.condition) ≡ first_unknown_in l.program l.condition
