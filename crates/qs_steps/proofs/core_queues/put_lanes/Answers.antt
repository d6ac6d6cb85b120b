use Rattle.std.proofs.Common.{◌≡◌, ◌<◌, ◌++◌, ap, arith, length, subst, sym, ◌∙◌}
use Rattle.qs_steps.proofs.Names.{CoreState, ProgramShape, core_of, lane_in, numbered}
use Rattle.qs_steps.proofs.Queues.{numbered_more}
use Rattle.qs_steps.proofs.core_queues.put_lanes.Goals as goal

pub put_lane-requires : goal.put_lane-requires
put_lane-requires c =
    let own = ap (λ (x : CoreState). x.program) c.loop-client.invariant.same ∙ c.requires.own in
    let inside : c.loop-client.client < length c.args.program.now.clients = omega (arith, c.loop-client-test.true, c.clients-client-end.ensures.value) in
    record {
      client = subst (λ (q : ProgramShape). c.loop-client.client < length q.clients) (sym own) inside;
      handler = subst (λ (q : ProgramShape). c.args.handler < length q.objects) (sym own) c.requires.handler;
    }

pub loop-client-preserved : goal.loop-client-preserved
loop-client-preserved c =
    let p = c.args.program.now in
    let n = c.loop-client.client in
    let one = c.in_ok-put_lane.ensures.ok ∙ ap (λ (x : CoreState). c.put_comma.new.out.items ++ lane_in c.args.form p n ((core_of x).down n c.args.handler)) c.loop-client.invariant.same in
    record {
      text = numbered_more c.args.form (λ m. lane_in c.args.form p m ((core_of c.args.core.now).down m c.args.handler)) c.args.out.now.items _ _ _ n _ c.from.ensures c.loop-client.invariant.text c.in_ok-put_comma.ensures.ok one;
      same = c.in_ok-put_lane.ensures.same ∙ c.loop-client.invariant.same;
    }

pub returns-clause-ok : goal.returns-clause-ok
returns-clause-ok c =
    let p = c.args.program.now in
    let all : c.loop-client.client ≡ length p.clients = omega (arith, c.loop-client.auto.client-end, c.loop-client-test.false, c.clients-client-end.ensures.value) in
    c.loop-client.invariant.text ∙ ap (λ n. c.args.out.now.items ++ numbered c.args.form (λ m. lane_in c.args.form p m ((core_of c.args.core.now).down m c.args.handler)) n) all
