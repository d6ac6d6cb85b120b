use Rattle.std.proofs.Common.{rules, arith, ◌≡◌, ◌∙◌, ◌+◌, ◌∷◌, ◌++◌, ◌&&◌, [], refl, ap, subst, sym, take, true, false}
use Rattle.std.proofs.lemmas.List.{take_all, take_more}
use Rattle.qs_levels.proofs.meaning.Lists.{has_at}
use Rattle.qs_serve.specs.Due.{AreAnswersTo}
use Rattle.qs_serve.proofs.ClaimsDues.{answer_of, answers_more, fault_of_one}
use Rattle.qs_serve.proofs.questions.due_of_questions_after.Goals as goal

pub loop-question-init : goal.loop-question-init
loop-question-init g c = (refl, c.new-text.ensures.items)

pub returns-in-Err-clause-due : goal.returns-in-Err-clause-due
returns-in-Err-clause-due g c =
    fault_of_one c.args.asked.format c.args.program.now c.args.asked.limit c.args.clients.now c.args.asked.questions.now c.question-item.result
    c.due_of_question_after-due.result c.in-Err.fault c.in-Err.ensures.parts
    (λ P here. has_at P c.args.asked.questions.now c.loop-question.question-index c.question-item.result c.loop-question-test.true c.question-item.is here)
    c.due_of_question_after-due.ensures.due

pub loop-question-preserved : goal.loop-question-preserved
loop-question-preserved g c =
    let how = c.args.asked.format in
    let p = c.args.program.now in
    let limit = c.args.asked.limit in
    let clients = c.args.clients.now in
    let claims = c.args.asked.questions.now in
    let i = c.loop-question.question-index in
    let claim = c.question-item.result in
    let front : take (i + 1) claims ≡ take i claims ++ claim ∷ [] =
    take_more claims i claim c.loop-question-test.true ∙ ap (λ v. take i claims ++ v ∷ []) (sym c.question-item.is) in
    subst (λ cs. AreAnswersTo how p limit clients cs c.both-hold.result c.add.new.text.items) (sym front)
    (subst (λ b. AreAnswersTo how p limit clients (take i claims ++ claim ∷ []) b c.add.new.text.items) (sym c.both-hold.ensures.both)
    (subst (AreAnswersTo how p limit clients (take i claims ++ claim ∷ []) (c.loop-question.hold && c.in-Ok.holds)) (sym c.in-Ok-add.ensures.added)
    (answers_more how p limit clients (take i claims) claim c.loop-question.hold c.in-Ok.holds c.loop-question.text.items c.in-Ok.own.items
    c.loop-question.invariant
    (answer_of how p limit clients claim c.due_of_question_after-due.result (c.in-Ok.own, c.in-Ok.holds) c.in-Ok.ensures.parts
    c.due_of_question_after-due.ensures.due))))

pub returns-then-hold-clause-due : goal.returns-then-hold-clause-due
returns-then-hold-clause-due g c =
    subst (λ cs. AreAnswersTo c.args.asked.format c.args.program.now c.args.asked.limit c.args.clients.now cs true c.loop-question.text.items)
    (take_all c.loop-question.question-index c.args.asked.questions.now (search (rules, arith)))
    (subst (λ b. AreAnswersTo c.args.asked.format c.args.program.now c.args.asked.limit c.args.clients.now (take c.loop-question.question-index c.args.asked.questions.now) b c.loop-question.text.items)
    c.if-hold.true c.loop-question.invariant)

pub returns-else-hold-clause-due : goal.returns-else-hold-clause-due
returns-else-hold-clause-due g c =
    subst (λ cs. AreAnswersTo c.args.asked.format c.args.program.now c.args.asked.limit c.args.clients.now cs false c.loop-question.text.items)
    (take_all c.loop-question.question-index c.args.asked.questions.now (search (rules, arith)))
    (subst (λ b. AreAnswersTo c.args.asked.format c.args.program.now c.args.asked.limit c.args.clients.now (take c.loop-question.question-index c.args.asked.questions.now) b c.loop-question.text.items)
    c.if-hold.false c.loop-question.invariant)
