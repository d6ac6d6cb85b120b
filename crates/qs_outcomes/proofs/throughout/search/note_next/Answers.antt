use Rattle.std.proofs.Common.{◌≡◌, ◌<◌, Err, ap, arith, get_or, length}
use Rattle.qs_outcomes.proofs.Common.{all_legal, blocks_of, drafted, HasNext, IsKey, IsOneOn, rows_in}
use Rattle.qs_outcomes.specs.declared.fault.OutcomesFault.TheVariants.{Limit}
use Rattle.qs_outcomes.specs.Reached.{HasNotedUntil}
use Rattle.qs_outcomes.specs.Searches.{classes_of}
use Rattle.qs_outcomes.specs.throughout.Courses.{IsCourseWitnessAfter}
use Rattle.qs_outcomes.proofs.Steps.{key_new}
use Rattle.qs_outcomes.proofs.throughout.Walking.{all_small, goes_found, goes_many, goes_new, goes_old, here_reached, led_some, more_noted, next_witness, rows_longer, skipped, some_is, waits_longer}
use Rattle.qs_outcomes.proofs.throughout.search.note_next.Goals as goal
use Rattle.qs_outcomes.proofs.throughout.search.note_next.Goals.{Else-from-blocks_of, In-Some}

left : (g : _) (c : Else-from-blocks_of g) → HasNext c.args.search.now.program.now c.args.standing.now c.args.client
left g c =
    let e : c.from-2.result ≡ get_or c.args.standing.now.begun c.args.client 0 = cc (c.from-2.ensures, c.begun.ensures.begun, c.from.ensures) in
    let f = c.blocks_of.ensures.value in
    let less = c.if-from-blocks_of.false in
    let is : get_or c.args.standing.now.begun c.args.client 0 < blocks_of c.args.search.now.program.now c.args.client = omega (arith, e, f, less) in is

led : (g : _) (c : In-Some g) → IsOneOn c.args.search.now.program.now c.args.standing.now c.args.client c.in-Some.next
    × IsKey c.args.search.now.program.now (classes_of c.args.search.now) c.in-Some.next (drafted c.lead.new.scratch.row)
led g c = led_some (rows_in c.args.state.now.rows.keys) c.in_ok-led.led c.in_ok-led.ensures.led c.in-Some.next c.in-Some.is

pub bounds-begun-from : goal.bounds-begun-from
bounds-begun-from g c =
    let at = (here_reached c.requires.going).standing.begun in
    let e = ap (length) c.begun.ensures.begun in
    let f = c.from.ensures in
    let less = c.requires.client in omega (arith, at, e, f, less)

pub returns-then-from-blocks_of-clause-going : goal.returns-then-from-blocks_of-clause-going
returns-then-from-blocks_of-clause-going g c = λ _.
    skipped c.requires.going (λ left.
    let e : c.from-2.result ≡ get_or c.args.standing.now.begun c.args.client 0 = cc (c.from-2.ensures, c.begun.ensures.begun, c.from.ensures) in
    let f = c.blocks_of.ensures.value in
    let past = c.if-from-blocks_of.true in
    let is : get_or c.args.standing.now.begun c.args.client 0 < blocks_of c.args.search.now.program.now c.args.client = left in omega (arith, e, f, past, is))

pub returns-then-from-blocks_of-clause-small : goal.returns-then-from-blocks_of-clause-small
returns-then-from-blocks_of-clause-small g c = all_small c.requires.going

pub lead-requires-clause-standing : goal.lead-requires-clause-standing
lead-requires-clause-standing g c = (here_reached c.requires.going).standing

pub lead-requires-clause-left : goal.lead-requires-clause-left
lead-requires-clause-left g c = left g (goal.at.lead-requires-clause-left g c).Else-from-blocks_of

pub returns-in_default-clause-going : goal.returns-in_default-clause-going
returns-in_default-clause-going g c = λ _.
    goes_found c.requires.going c.keeps_sound.ensures.sound c.requires.prepared.classes (left g (goal.at.returns-in_default-clause-going g c).Else-from-blocks_of)
    (drafted c.lead.new.scratch.row) c.in_ok-led.led c.in_ok-led.ensures.led c.in_default.not-Some

pub returns-in_default-clause-small : goal.returns-in_default-clause-small
returns-in_default-clause-small g c = all_small c.requires.going

pub note-requires : goal.note-requires
note-requires g c = record { small = all_small c.requires.going }

pub returns-in-Err-clause-limit : goal.returns-in-Err-clause-limit
returns-in-Err-clause-limit g c = λ is.
    let a = goal.at.returns-in-Err-clause-limit g c in
    let same : c.in-Err.fault ≡ Limit = cc in
    let full = c.in-Err.ensures.full (ap (λ e. Err e) same) in
    more_noted c.requires.going c.keeps_sound.ensures.sound c.requires.prepared.classes (left g a.Else-from-blocks_of) (led g a.In-Some).0
    (key_new (led g a.In-Some).1 (rows_in c.args.state.now.rows.keys) full.1) _ (let e = full.0 in omega (arith, e))

pub returns-in-Ok-false-clause-going : goal.returns-in-Ok-false-clause-going
returns-in-Ok-false-clause-going g c = λ _.
    let a = goal.at.returns-in-Ok-false-clause-going g c in
    (goes_old (rows_in c.note.new.rows.keys) c.requires.going c.keeps_sound.ensures.sound c.requires.prepared.classes (left g a.Else-from-blocks_of) (led g a.In-Some).0 (led g a.In-Some).1
    c.in-Ok-false.field-0 c.in-Ok-false.ensures.inserted c.in-Ok-false.field-0-test).0

pub returns-in-Ok-false-clause-kept : goal.returns-in-Ok-false-clause-kept
returns-in-Ok-false-clause-kept g c = λ _.
    let a = goal.at.returns-in-Ok-false-clause-kept g c in
    let e = (goes_old (rows_in c.note.new.rows.keys) c.requires.going c.keeps_sound.ensures.sound c.requires.prepared.classes (left g a.Else-from-blocks_of) (led g a.In-Some).0 (led g a.In-Some).1
    c.in-Ok-false.field-0 c.in-Ok-false.ensures.inserted c.in-Ok-false.field-0-test).1 in omega (arith, e)

pub returns-clause-going : goal.returns-clause-going
returns-clause-going g c = λ is.
    let a = goal.at.returns-clause-going g c in
    goes_new (rows_in c.note.new.rows.keys) c.requires.going c.keeps_sound.ensures.sound c.requires.prepared.classes (left g a.Else-from-blocks_of) (led g a.In-Some).0 (led g a.In-Some).1
    c.in-Ok-true.field-0 c.in-Ok-true.ensures.inserted c.in-Ok-true.field-0-test c.in-Ok-true.ensures.small c.take_in.new.waiting.items (c.in_ok-met.ensures.unmet is)

pub returns-clause-kept : goal.returns-clause-kept
returns-clause-kept g c = λ is.
    let a = goal.at.returns-clause-kept g c in
    let e = rows_longer (rows_in c.note.new.rows.keys) c.requires.going c.keeps_sound.ensures.sound c.requires.prepared.classes (left g a.Else-from-blocks_of) (led g a.In-Some).0 (led g a.In-Some).1
    c.in-Ok-true.field-0 c.in-Ok-true.ensures.inserted c.in-Ok-true.field-0-test in
    let long = waits_longer (c.in_ok-met.ensures.unmet is) in omega (arith, e, long)

pub take_in-requires : goal.take_in-requires
take_in-requires g c =
    let on = (led g (goal.at.take_in-requires g c).In-Some).0 in
    record { places = record { locals = on.standing.locals; states = on.standing.states } }

pub returns-clause-witness : goal.returns-clause-witness
returns-clause-witness g c =
    let a = goal.at.returns-clause-witness g c in
    let asked = g.Q.Question.asked c.args.question.now c.args.search.now.program.now in
    some_is (IsCourseWitnessAfter c.args.search.now.program.now c.args.search.now.front.now asked) c.in-Some.next asked
    (next_witness c.requires.going c.keeps_sound.ensures.sound c.requires.prepared.classes (left g a.Else-from-blocks_of) (led g a.In-Some).0 c.requires.blind)
    c.in_ok-met.met c.in_ok-met.ensures.met

pub returns-clause-many : goal.returns-clause-many
returns-clause-many g c =
    let a = goal.at.returns-clause-many g c in
    some_is (HasNotedUntil c.args.search.now.program.now (classes_of c.args.search.now) all_legal c.args.search.now.front.now (length (rows_in c.note.new.rows.keys)))
    c.in-Some.next (g.Q.Question.asked c.args.question.now c.args.search.now.program.now)
    (λ _. goes_many (rows_in c.note.new.rows.keys) c.requires.going c.keeps_sound.ensures.sound c.requires.prepared.classes (left g a.Else-from-blocks_of) (led g a.In-Some).0 (led g a.In-Some).1
    c.in-Ok-true.field-0 c.in-Ok-true.ensures.inserted c.in-Ok-true.field-0-test)
    c.in_ok-met.met c.in_ok-met.ensures.met
