use Rattle.std.proofs.Common.{◌≤◌, ◌++◌, ap, arith, length, ◌∙◌}
use Rattle.qs_steps.proofs.Names.{QueueState, listed, private_in, take_all}
use Rattle.qs_steps.proofs.Queues.{joined, listed_more}
use Rattle.qs_steps.proofs.plain_queues.put_privates.Goals as goal

pub loop-place-preserved : goal.loop-place-preserved
loop-place-preserved c =
    let text = λ (q : QueueState). private_in c.args.form c.args.program.now q.queue in
    listed_more c.args.form text c.args.queues.now c.args.out.now.items _ _ c.loop-place.place _ c.loop-place-test.true c.loop-place.invariant
    (joined _ _ _ _ _ c.in_ok-put_comma.ensures.ok (c.in_ok-put_private.ensures.ok ∙ ap (λ q. c.put_comma.new.out.items ++ text q) c.index-queues-place.is))

pub returns : goal.returns
returns c =
    let all : length c.args.queues.now ≤ c.loop-place.place = omega (arith, c.loop-place-test.false) in
    record { ok = c.loop-place.invariant ∙ ap (λ qs. c.args.out.now.items ++ listed c.args.form (λ (q : QueueState). private_in c.args.form c.args.program.now q.queue) qs) (take_all c.loop-place.place c.args.queues.now all) }
