use Rattle.std.proofs.Common.{◌≡◌, Err, ap, arith, subst, sym, ◌∙◌}
use Rattle.qs_outcomes.specs.declared.fault.OutcomesFault.TheVariants.{Limit}
use Rattle.qs_outcomes.proofs.Common.{IsStanding, rows_in}
use Rattle.qs_outcomes.proofs.Exploring.{ended, enough_top, gone_on, noted_top, skipped, taken}
use Rattle.qs_outcomes.proofs.Explored.{noted_one_more}
use Rattle.qs_outcomes.proofs.Witnesses.{is_witness}
use Rattle.qs_outcomes.proofs.depth.visit.Goals as goal

pub returns-in-Err-clause-limit : goal.returns-in-Err-clause-limit
returns-in-Err-clause-limit g c = λ is.
    let same : c.in-Err.fault ≡ Limit = cc in
    let full = c.in-Err.ensures.full (ap (λ e. Err e) same) in
    noted_one_more c.requires.explored (taken c.keeps_sound.ensures.sound c.requires.prepared.classes c.args.state.now.stack.items c.args.standing c.requires.explored) full.1 _
    (let e = full.0 in omega (arith, e))

pub returns-in-Ok-false-clause-explored : goal.returns-in-Ok-false-clause-explored
returns-in-Ok-false-clause-explored g c = λ _.
    skipped c.keeps_sound.ensures.sound c.requires.prepared.classes c.args.search.now.limit (rows_in c.note.new.seen.keys) c.args.state.now.stack.items c.requires.explored
    c.in-Ok-false.ensures.written.0 c.in-Ok-false.field-0 c.in-Ok-false.ensures.noted c.in-Ok-false.field-0-test

pub is_over-requires : goal.is_over-requires
is_over-requires g c = record {
  standing = subst (λ ts. IsStanding c.args.search.now.program.now ts c.args.standing) (sym c.order.ensures.order)
      (taken c.keeps_sound.ensures.sound c.requires.prepared.classes c.args.state.now.stack.items c.args.standing c.requires.explored).standing;
}

pub is_met-requires : goal.is_met-requires
is_met-requires g c =
    let at = (taken c.keeps_sound.ensures.sound c.requires.prepared.classes c.args.state.now.stack.items c.args.standing c.requires.explored).standing in
    record { places = record { locals = at.locals; states = at.states } }

pub returns-then-branch-clause-witness : goal.returns-then-branch-clause-witness
returns-then-branch-clause-witness g c =
    is_witness c.keeps_sound.ensures.sound c.requires.prepared.classes c.args.state.now.stack.items c.args.standing c.requires.explored
    (g.Q.Question.asked c.args.question.now c.args.search.now.program.now) c.requires.blind c.requires.unmet (c.is_over.ensures.over c.if-is_over.true)
    (sym c.in_ok-is_met.ensures.met ∙ c.if-branch.true)

pub returns-then-branch-clause-noted : goal.returns-then-branch-clause-noted
returns-then-branch-clause-noted g c =
    noted_top c.keeps_sound.ensures.sound c.requires.prepared.classes c.args.search.now.limit (rows_in c.note.new.seen.keys) c.args.state.now.stack.items c.requires.explored
    c.in-Ok-true.ensures.written.0 c.in-Ok-true.field-0 c.in-Ok-true.ensures.noted c.in-Ok-true.field-0-test

pub returns-then-branch-clause-enough : goal.returns-then-branch-clause-enough
returns-then-branch-clause-enough g c =
    enough_top c.keeps_sound.ensures.sound c.requires.prepared.classes c.args.search.now.limit (rows_in c.note.new.seen.keys) c.args.state.now.stack.items c.requires.explored
    c.in-Ok-true.ensures.written.0 c.in-Ok-true.field-0 c.in-Ok-true.ensures.noted c.in-Ok-true.field-0-test

pub returns-then-is_over-clause-explored : goal.returns-then-is_over-clause-explored
returns-then-is_over-clause-explored g c = λ _.
    ended c.keeps_sound.ensures.sound c.requires.prepared.classes c.args.search.now.limit (rows_in c.note.new.seen.keys) c.args.state.now.stack.items c.requires.explored
    c.in-Ok-true.ensures.written.0 c.in-Ok-true.field-0 c.in-Ok-true.ensures.noted c.in-Ok-true.field-0-test
    (c.is_over.ensures.over c.if-is_over.true) c.add.new.list.items c.in_ok-add.ensures.added

pub push_next-requires-clause-to : goal.push_next-requires-clause-to
push_next-requires-clause-to g c = taken c.keeps_sound.ensures.sound c.requires.prepared.classes c.args.state.now.stack.items c.args.standing c.requires.explored

pub returns-clause-explored : goal.returns-clause-explored
returns-clause-explored g c = λ _.
    gone_on c.keeps_sound.ensures.sound c.requires.prepared.classes c.args.search.now.limit (rows_in c.note.new.seen.keys) c.args.state.now.stack.items c.requires.explored
    c.in-Ok-true.ensures.written.0 c.in-Ok-true.field-0 c.in-Ok-true.ensures.noted c.in-Ok-true.field-0-test
    c.push_next.new.stack.items c.in_ok-push_next.ensures.longer (c.is_over.ensures.left c.if-is_over.false)
