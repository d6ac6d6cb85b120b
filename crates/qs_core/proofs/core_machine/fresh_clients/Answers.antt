use Rattle.std.proofs.Common.{get_or, subst, sym, arith}
use Rattle.qs_played.proofs.Lists.{each_more}
use Rattle.qs_core.specs.state.CoreState.{IsFreshClient}
use Rattle.qs_core.proofs.core_machine.fresh_clients.Goals as goal

pub loop-number-preserved : goal.loop-number-preserved
loop-number-preserved c = record {
  many = omega (arith, c.in_ok-push.ensures.len, c.loop-number.invariant.many, c.loop-number.clients.ok, c.push.new.self.ok);
  each = λ n d less.
      subst (λ xs. IsFreshClient c.args.program.now c.args.mode c.args.size n (get_or xs n d)) (sym c.in_ok-push.ensures.items)
      (each_more (IsFreshClient c.args.program.now c.args.mode c.args.size) c.loop-number.clients.items c.in_ok-fresh_client.field-0 c.loop-number.number c.loop-number.invariant.many c.loop-number.invariant.each c.in_ok-fresh_client.ensures.fresh n d less);
}
