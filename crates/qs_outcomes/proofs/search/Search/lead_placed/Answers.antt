use Rattle.qs_outcomes.proofs.Common.{IsOneOn, rows_in}
use Rattle.qs_outcomes.proofs.Steps.{key_seen, one_on}
use Rattle.qs_outcomes.proofs.search.Search.lead_placed.Goals as goal
use Rattle.qs_outcomes.proofs.search.Search.lead_placed.Goals.{In_ok-put_next}

on : (c : In_ok-put_next) → IsOneOn c.args.self.now.program.now c.args.standing.now c.args.client c.put_next.new.next
on c = one_on c.requires.standing c.requires.client c.requires.left c.requires.ran c.in_ok-put_next.ensures.next

pub write_placed-requires-clause-standing : goal.write_placed-requires-clause-standing
write_placed-requires-clause-standing c = (on (goal.at.write_placed-requires-clause-standing c).In_ok-put_next).standing

pub returns-then-was_seen-clause-led : goal.returns-then-was_seen-clause-led
returns-then-was_seen-clause-led c = (
  c.put_next.new.next,
  on (goal.at.returns-then-was_seen-clause-led c).In_ok-put_next,
  key_seen c.in_ok-write_placed.ensures.key (rows_in c.args.seen.now.keys) (c.was_seen.ensures.seen c.if-was_seen.true),
)

pub returns-clause-led : goal.returns-clause-led
returns-clause-led c = (on (goal.at.returns-clause-led c).In_ok-put_next, c.in_ok-write_placed.ensures.key)
