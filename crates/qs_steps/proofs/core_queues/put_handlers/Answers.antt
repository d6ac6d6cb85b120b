use Rattle.std.proofs.Common.{◌≡◌, ◌++◌, ap, arith, length, ◌∙◌}
use Rattle.qs_steps.proofs.Names.{CoreState, core_of, handler_in, numbered}
use Rattle.qs_steps.proofs.Queues.{numbered_more}
use Rattle.qs_steps.proofs.core_queues.put_handlers.Goals as goal

pub put_handler-requires : goal.put_handler-requires
put_handler-requires c = record {
  own = ap (λ (x : CoreState). x.program) c.loop-handler.invariant.same ∙ c.requires.own;
  handler = omega (arith, c.loop-handler-test.true, c.objects-handler-end.ensures.value);
}

pub loop-handler-preserved : goal.loop-handler-preserved
loop-handler-preserved c =
    let p = c.args.program.now in
    let h = c.loop-handler.handler in
    let one = c.in_ok-put_handler.ensures.ok ∙ ap (λ (x : CoreState). c.put_comma.new.out.items ++ handler_in c.args.form p (core_of x) h) c.loop-handler.invariant.same in
    record {
      text = numbered_more c.args.form (handler_in c.args.form p (core_of c.args.core.now)) c.args.out.now.items _ _ _ h _ c.from.ensures c.loop-handler.invariant.text c.in_ok-put_comma.ensures.ok one;
      same = c.in_ok-put_handler.ensures.same ∙ c.loop-handler.invariant.same;
    }

pub returns-clause-ok : goal.returns-clause-ok
returns-clause-ok c =
    let p = c.args.program.now in
    let all : c.loop-handler.handler ≡ length p.objects = omega (arith, c.loop-handler.auto.handler-end, c.loop-handler-test.false, c.objects-handler-end.ensures.value) in
    c.loop-handler.invariant.text ∙ ap (λ n. c.args.out.now.items ++ numbered c.args.form (handler_in c.args.form p (core_of c.args.core.now)) n) all
