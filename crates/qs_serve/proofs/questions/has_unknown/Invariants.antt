-- The questions before this one ask for what the program has.
use Rattle.std.proofs.Common.{take}
use Rattle.std.specs.List.{AllByRecursion}
use Rattle.qs_serve.specs.Due.{IsOfProgram}
use Rattle.qs_serve.proofs.questions.has_unknown.Given as goal

abbrev pub invariant-loop-question : goal.invariant-loop-question
invariant-loop-question l = AllByRecursion (IsOfProgram l.program) (take l.question-index l.questions)
