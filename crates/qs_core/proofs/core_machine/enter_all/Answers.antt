use Rattle.std.proofs.Common.{drop, ◌+◌, ap, sym, subst, ◌∙◌}
use Rattle.qs_played.proofs.Lists.{from_here}
use Rattle.qs_core.specs.parts.CoreHandlers.{CanEnterAll, with_ticket_at_all}
use Rattle.qs_core.proofs.core_machine.enter_all.Goals as goal

pub loop-object-preserved : goal.loop-object-preserved
loop-object-preserved c =
    let t = c.args.ticket in
    let hs = c.loop-object.handlers.items in
    let later = drop (c.loop-object.object-index + 1) c.args.objects.now in
    let cut = from_here c.args.objects.now c.loop-object.object-index c.loop-object-test.true in
    let can = subst (CanEnterAll t hs) cut c.loop-object.invariant.can in
    record {
      value = ap (λ xs. with_ticket_at_all t xs later) c.enter_at.ensures.entered ∙ sym (ap (with_ticket_at_all t hs) cut) ∙ c.loop-object.invariant.value;
      can = subst (λ xs. CanEnterAll t xs later) (sym c.enter_at.ensures.entered) can.2;
    }
