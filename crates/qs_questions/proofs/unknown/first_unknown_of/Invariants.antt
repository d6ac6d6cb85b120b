use Rattle.std.proofs.Common.{◌≡◌, drop}
use Rattle.qs_questions.specs.Questions.{first_unknown_of}
use Rattle.qs_questions.proofs.unknown.first_unknown_of.Given as goal

abbrev pub invariant-loop-summand : goal.invariant-loop-summand
invariant-loop-summand l = first_unknown_of l.program (drop l.summand-index l.sum) ≡ first_unknown_of l.program l.sum
