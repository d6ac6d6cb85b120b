use Rattle.std.proofs.Common.{◌==◌, get_or, drop, ◌+◌, ap, sym, subst, ◌∙◌}
use Rattle.qs_played.proofs.Names.{AllByRecursion, IsDistinct-head, IsDistinct-tail}
use Rattle.qs_played.proofs.Lists.{from_here}
use Rattle.qs_plain.proofs.Names.{CanLog, CanLogAll, logged_all, with_logged_item, handler_state_at, HandlerState, IsLoggable}
use Rattle.qs_plain.proofs.handler.HandlersSteps.{can_after}
use Rattle.qs_plain.proofs.handler.handlers.log_all.Goals as goal

pub loop-object-preserved : goal.loop-object-preserved
loop-object-preserved c =
    let t = c.args.ticket in
    let item = c.args.item.now in
    let hs = c.loop-object.handlers.items in
    let h = get_or c.args.objects.now c.loop-object.object-index 0 in
    let later = drop (c.loop-object.object-index + 1) c.args.objects.now in
    let cut = from_here c.args.objects.now c.loop-object.object-index c.loop-object-test.true in
    let (each, distinct) = subst (CanLogAll t hs) cut c.loop-object.invariant.can in
    record {
      value = ap (λ xs. logged_all t item xs later) c.log_at.ensures.logged ∙ sym (ap (logged_all t item hs) cut) ∙ c.loop-object.invariant.value;
      can = (
        subst (λ xs. AllByRecursion (CanLog t xs) later) (sym c.log_at.ensures.logged)
            (can_after (λ (x : HandlerState). IsLoggable t x.queues) hs h (with_logged_item t item (handler_state_at hs h)) later each.1 (IsDistinct-head ◌==◌ h later distinct)),
        IsDistinct-tail ◌==◌ h later distinct,
      );
    }
