use Rattle.std.proofs.Common.{◌≡◌, Err, length, ap, arith, subst}
use Rattle.qs_outcomes.proofs.Common.{all_legal, drafted, IsInserted, rows_in, RowShape}
use Rattle.qs_outcomes.specs.Reached.{HasNotedUntil}
use Rattle.qs_outcomes.specs.declared.fault.OutcomesFault.TheVariants.{Limit}
use Rattle.qs_outcomes.specs.Searches.{classes_of}
use Rattle.qs_outcomes.specs.throughout.Courses.{IsCourseWitnessAfter}
use Rattle.qs_outcomes.specs.throughout.Walked.{IsTakenIn}
use Rattle.qs_outcomes.proofs.throughout.Walking.{first_many, first_more, first_walked, first_witness, some_is}
use Rattle.qs_outcomes.proofs.throughout.search.note_first.Goals as goal

pub returns-in-Err-clause-limit : goal.returns-in-Err-clause-limit
returns-in-Err-clause-limit g c = λ is.
    let same : c.in-Err.fault ≡ Limit = cc in
    let full = c.in-Err.ensures.full (ap (λ e. Err e) same) in
    let none : length (rows_in c.args.state.now.rows.keys) ≡ 0 = ap (length {A = RowShape}) c.requires.rows in
    first_more (classes_of c.args.search.now) c.requires.first _ (let e = full.0 in omega (arith, e, none))

pub returns-clause-walked : goal.returns-clause-walked
returns-clause-walked g c = λ is.
    let asked = g.Q.Question.asked c.args.question.now c.args.search.now.program.now in
    first_walked (classes_of c.args.search.now) c.requires.first (rows_in c.note.new.rows.keys) c.in_ok-write.ensures.written.0 c.in-Ok.field-0
    (subst (λ rs. IsInserted rs (drafted c.write.new.scratch.base) c.in-Ok.field-0 (rows_in c.note.new.rows.keys)) c.requires.rows c.in-Ok.ensures.inserted)
    c.args.search.now.limit c.in-Ok.ensures.small c.take_in.new.waiting.items
    (subst (λ ws. IsTakenIn asked c.args.first ws c.take_in.new.waiting.items) c.requires.waiting (c.in_ok-met.ensures.unmet is))

pub returns-clause-witness : goal.returns-clause-witness
returns-clause-witness g c =
    let asked = g.Q.Question.asked c.args.question.now c.args.search.now.program.now in
    some_is (IsCourseWitnessAfter c.args.search.now.program.now c.args.search.now.front.now asked) c.args.first asked
    (first_witness (classes_of c.args.search.now) c.requires.first c.args.search.now.limit c.requires.blind) c.in_ok-met.met c.in_ok-met.ensures.met

pub returns-clause-many : goal.returns-clause-many
returns-clause-many g c =
    some_is (HasNotedUntil c.args.search.now.program.now (classes_of c.args.search.now) all_legal c.args.search.now.front.now (length (rows_in c.note.new.rows.keys)))
    c.args.first (g.Q.Question.asked c.args.question.now c.args.search.now.program.now)
    (λ _. first_many (classes_of c.args.search.now) c.requires.first (rows_in c.note.new.rows.keys) c.in_ok-write.ensures.written.0 c.in-Ok.field-0
    (subst (λ rs. IsInserted rs (drafted c.write.new.scratch.base) c.in-Ok.field-0 (rows_in c.note.new.rows.keys)) c.requires.rows c.in-Ok.ensures.inserted))
    c.in_ok-met.met c.in_ok-met.ensures.met
