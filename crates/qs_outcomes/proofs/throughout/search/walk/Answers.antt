use Rattle.std.proofs.Common.{arith, subst}
use Rattle.qs_outcomes.proofs.Common.{nil_from_length, rows_in}
use Rattle.qs_outcomes.specs.Searches.{HasWalkedIn}
use Rattle.qs_outcomes.proofs.throughout.search.walk.Goals as goal

pub note_all-requires-clause-walked : goal.note_all-requires-clause-walked
note_all-requires-clause-walked g c =
    subst (HasWalkedIn c.args.search.now (g.Q.Question.asked c.args.question.now c.args.search.now.program.now) (rows_in c.loop-standing.state.rows.keys))
    c.in-Some.ensures.items c.loop-standing.invariant.walked

pub returns-clause-walked : goal.returns-clause-walked
returns-clause-walked g c = λ _.
    subst (HasWalkedIn c.args.search.now (g.Q.Question.asked c.args.question.now c.args.search.now.program.now) (rows_in c.loop-standing.state.rows.keys))
    (nil_from_length c.loop-standing.state.waiting.items (let e = c.in_default.ensures.cases.0 in let k = c.loop-standing.state.waiting.ok.0 in omega (arith, e, k)))
    c.loop-standing.invariant.walked
