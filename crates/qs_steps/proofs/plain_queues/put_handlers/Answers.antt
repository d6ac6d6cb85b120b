use Rattle.std.proofs.Common.{◌≡◌, ◌++◌, ap, arith, length, ◌∙◌}
use Rattle.qs_steps.proofs.Names.{handler_of, numbered, plain_of}
use Rattle.qs_steps.proofs.Queues.{numbered_more}
use Rattle.qs_steps.proofs.plain_queues.put_handlers.Goals as goal

pub loop-handler-preserved : goal.loop-handler-preserved
loop-handler-preserved c =
    numbered_more c.args.form (handler_of c.args.form c.args.program.now (plain_of c.args.rules.now)) c.args.out.now.items _ _ _ c.loop-handler.handler _ c.from.ensures c.loop-handler.invariant c.in_ok-put_comma.ensures.ok c.in_ok-put_handler.ensures.ok

pub returns : goal.returns
returns c =
    let p = c.args.program.now in
    let all : c.loop-handler.handler ≡ length p.objects = omega (arith, c.loop-handler.auto.handler-end, c.loop-handler-test.false, c.objects-handler-end.ensures.value) in
    record { ok = c.loop-handler.invariant ∙ ap (λ n. c.args.out.now.items ++ numbered c.args.form (handler_of c.args.form p (plain_of c.args.rules.now)) n) all }
