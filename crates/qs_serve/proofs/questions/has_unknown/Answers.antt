use Rattle.qs_levels.proofs.meaning.Lists.{has_at}
use Rattle.qs_serve.specs.Due.{IsOfProgram}
use Rattle.qs_serve.proofs.questions.has_unknown.Goals as goal

pub returns-then-is_unknown-clause-unknown : goal.returns-then-is_unknown-clause-unknown
returns-then-is_unknown-clause-unknown c = λ found.
    has_at (λ question. ¬ IsOfProgram c.args.program.now question) c.args.questions.now c.loop-question.question-index c.question-item.result
    c.loop-question-test.true c.question-item.is (c.is_unknown.ensures.unknown c.if-is_unknown.true)
