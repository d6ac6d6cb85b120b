use Rattle.std.proofs.Common.{◌≡◌, ◌++◌, ap, arith, length, ◌∙◌}
use Rattle.qs_steps.proofs.Names.{numbered, plain_of}
use Rattle.qs_steps.specs.PlainQueues.{client_of}
use Rattle.qs_steps.proofs.Queues.{numbered_more}
use Rattle.qs_steps.proofs.plain_queues.put_clients.Goals as goal

pub loop-client-preserved : goal.loop-client-preserved
loop-client-preserved c =
    numbered_more c.args.form (client_of c.args.form c.args.program.now (plain_of c.args.rules.now)) c.args.out.now.items _ _ _ c.loop-client.client _ c.from.ensures c.loop-client.invariant c.in_ok-put_comma.ensures.ok c.in_ok-put_client_of.ensures.ok

pub returns : goal.returns
returns c =
    let p = c.args.program.now in
    let all : c.loop-client.client ≡ length p.clients = omega (arith, c.loop-client.auto.client-end, c.loop-client-test.false, c.clients-client-end.ensures.value) in
    record { ok = c.loop-client.invariant ∙ ap (λ n. c.args.out.now.items ++ numbered c.args.form (client_of c.args.form p (plain_of c.args.rules.now)) n) all }
