use Rattle.std.proofs.Common.{◌==◌, ℕ, ◌≡◌, ◌<◌, get_or, ap, sym, subst, ◌∙◌, map}
use Rattle.qs_played.proofs.Names.{set, AllByRecursion, IsDistinct-head, IsDistinct-tail}
use Rattle.qs_played.proofs.Lists.{get_or-any}
use Rattle.qs_plain.proofs.Names.{QueueState, CanEnter, CanEnterAll, entered_all, with_queue, handler_state_at, nobody, HandlerState}
use Rattle.qs_plain.proofs.handler.HandlersSteps.{can_after}
use Rattle.qs_plain.proofs.handler.handlers.enter_all.Goals as goal

pub each-preserved : goal.each-preserved
each-preserved c =
    let hs = c.each.handlers.items in
    let h = c.in-Some.object in
    let later = c.pop_front.new.self.items in
    let cut = c.in-Some.ensures.items in
    let objects = map (λ (q : ℕ × QueueState). q.0) in
    let (each, distinct) = subst (λ qs. CanEnterAll hs (objects qs)) cut c.each.invariant.can in
    let here : c.index_mut-handler.result.now ≡ handler_state_at hs h = c.index_mut-handler.ensures.value ∙ ap (λ n. get_or hs n c.index_mut-handler.result.now) c.from.ensures ∙ get_or-any hs h c.index_mut-handler.result.now nobody each.0.0 in
    let new : c.enter.new.self ≡ with_queue c.in-Some.queue (handler_state_at hs h) = c.enter.ensures.entered ∙ ap (with_queue c.in-Some.queue) here in
    let now : set hs c.from.result c.enter.new.self ≡ set hs h (with_queue c.in-Some.queue (handler_state_at hs h)) = λ k. set hs (c.from.ensures k) (new k) in
    record {
      value = ap (λ xs. entered_all xs later) now ∙ sym (ap (entered_all hs) cut) ∙ c.each.invariant.value;
      can = (
        subst (λ xs. AllByRecursion (CanEnter xs) (objects later)) (sym now)
            (can_after (λ (x : HandlerState). 0 < x.room) hs h (with_queue c.in-Some.queue (handler_state_at hs h)) (objects later) each.1 (IsDistinct-head ◌==◌ h (objects later) distinct)),
        IsDistinct-tail ◌==◌ h (objects later) distinct,
      );
    }
