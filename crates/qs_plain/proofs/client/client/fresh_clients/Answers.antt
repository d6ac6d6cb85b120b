use Rattle.std.proofs.Common.{arith}
use Rattle.std.proofs.lemmas.List.{length-append}
use Rattle.qs_played.proofs.Lists.{each_more}
use Rattle.qs_plain.specs.client.Clients.{IsFresh}
use Rattle.qs_plain.proofs.client.client.fresh_clients.Goals as goal

pub loop-number-preserved : goal.loop-number-preserved
loop-number-preserved c =
    let p = c.args.program.now in
    record {
      many = rw c.in_ok-push.ensures.items (simp length-append (omega (arith, c.loop-number.invariant.many)));
      each = rw c.in_ok-push.ensures.items
          (each_more (λ k. IsFresh p k) c.loop-number.clients.items _ c.loop-number.number c.loop-number.invariant.many c.loop-number.invariant.each c.in_ok-new.ensures.fresh);
    }
