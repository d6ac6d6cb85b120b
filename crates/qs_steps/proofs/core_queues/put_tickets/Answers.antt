use Rattle.std.proofs.Common.{◌≤◌, ◌++◌, ap, arith, length, ◌∙◌}
use Rattle.qs_steps.proofs.Names.{listed, take_all, waiting_in}
use Rattle.qs_steps.proofs.Queues.{joined, listed_more}
use Rattle.qs_steps.proofs.core_queues.put_tickets.Goals as goal

pub loop-place-preserved : goal.loop-place-preserved
loop-place-preserved c =
    listed_more c.args.form (waiting_in c.args.form c.args.program.now) c.args.tickets.now c.args.out.now.items _ _ c.loop-place.place _ c.loop-place-test.true c.loop-place.invariant
    (joined _ _ _ _ _ c.in_ok-put_comma.ensures.ok c.in_ok-put_waiting.ensures.ok)

pub returns : goal.returns
returns c =
    let tickets = c.args.tickets.now in
    let all : length tickets ≤ c.loop-place.place = omega (arith, c.loop-place-test.false) in
    record { ok = c.loop-place.invariant ∙ ap (λ ts. c.args.out.now.items ++ listed c.args.form (waiting_in c.args.form c.args.program.now) ts) (take_all c.loop-place.place tickets all) }
