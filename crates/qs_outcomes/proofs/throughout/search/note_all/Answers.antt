use Rattle.std.proofs.Common.{arith, refl, subst}
use Rattle.qs_standings.specs.Rows.{rows_in}
use Rattle.qs_outcomes.specs.Searches.{IsGoingOnIn}
use Rattle.qs_outcomes.proofs.throughout.Walking.{all_done, all_small, goes_on, here_reached}
use Rattle.qs_outcomes.proofs.throughout.search.note_all.Goals as goal

pub write-requires-clause-standing : goal.write-requires-clause-standing
write-requires-clause-standing g c = (here_reached (goes_on c.requires.walked)).standing

pub loop-client-init : goal.loop-client-init
loop-client-init g c = record { going = goes_on c.requires.walked; written = c.in_ok-write.ensures.written; kept = refl }

pub returns-clause-walked : goal.returns-clause-walked
returns-clause-walked g c = λ _.
    all_done (subst (λ n. IsGoingOnIn c.args.search.now (g.Q.Question.asked c.args.question.now c.args.search.now.program.now) (rows_in c.loop-client.state.rows.keys) c.args.standing n
    c.loop-client.state.waiting.items) (let e = c.clients-client-end.ensures.value in let past = c.loop-client-test.false in omega (arith, e, past)) c.loop-client.invariant.going)

pub returns-clause-small : goal.returns-clause-small
returns-clause-small g c = all_small c.loop-client.invariant.going
