use Rattle.std.proofs.Common.{◌≡◌, ◌<◌, ◌++◌, ap, arith, length, subst, sym, ◌∙◌}
use Rattle.qs_steps.proofs.Names.{ProgramShape, client_of, codes_of, core_of, numbered}
use Rattle.qs_steps.proofs.Queues.{numbered_more}
use Rattle.qs_steps.proofs.core_queues.put_clients.Goals as goal

pub put_client_of-requires : goal.put_client_of-requires
put_client_of-requires c =
    let inside : c.loop-client.client < length c.args.program.now.clients = omega (arith, c.loop-client-test.true, c.clients-client-end.ensures.value) in
    record { client = subst (λ (q : ProgramShape). c.loop-client.client < length q.clients) (sym c.requires.own) inside }

pub loop-client-preserved : goal.loop-client-preserved
loop-client-preserved c =
    let s = c.args.core.now in
    numbered_more c.args.form (client_of c.args.form c.args.program.now (codes_of s) s.size (core_of s)) c.args.out.now.items _ _ _ c.loop-client.client _ c.from.ensures c.loop-client.invariant c.in_ok-put_comma.ensures.ok c.in_ok-put_client_of.ensures.ok

pub returns : goal.returns
returns c =
    let p = c.args.program.now in
    let s = c.args.core.now in
    let all : c.loop-client.client ≡ length p.clients = omega (arith, c.loop-client.auto.client-end, c.loop-client-test.false, c.clients-client-end.ensures.value) in
    record { ok = c.loop-client.invariant ∙ ap (λ n. c.args.out.now.items ++ numbered c.args.form (client_of c.args.form p (codes_of s) s.size (core_of s)) n) all }
