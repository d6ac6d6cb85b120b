-- The text so far has the answers to the questions before this one, and they hold where all of these are yes.
use Rattle.std.proofs.Common.{take}
use Rattle.qs_serve.specs.Due.{AreAnswersTo}
use Rattle.qs_serve.proofs.questions.due_of_questions_after.Given as goal

abbrev pub invariant-loop-question : goal.invariant-loop-question
invariant-loop-question g l = AreAnswersTo l.format l.program l.limit l.clients (take l.question-index l.questions) l.hold l.text.items
