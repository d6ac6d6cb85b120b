use Rattle.std.proofs.Common.{◌≡◌, ℕ, List, [], ◌∷◌, ◌++◌, map, ap, sym, refl, ◌∙◌, subst, arith, get_or}
use Rattle.qs_played.proofs.Names.{take_more, AllByRecursion, block_at}
use Rattle.qs_plain.proofs.Names.{IsReadyQueue, QueueState}
use Rattle.qs_plain.proofs.client.client.prepare.Goals as goal

objects_push : (qs : List (ℕ × QueueState)) (q : ℕ × QueueState) → map (λ (q : ℕ × QueueState). q.0) (qs ++ q ∷ []) ≡ map (λ (q : ℕ × QueueState). q.0) qs ++ q.0 ∷ []
objects_push [] q = refl
objects_push (p ∷ qs) q = ap (λ rest. p.0 ∷ rest) (objects_push qs q)

all_push : (P : ℕ × QueueState → Type 0) (qs : List (ℕ × QueueState)) (q : ℕ × QueueState) → AllByRecursion P qs → P q → AllByRecursion P (qs ++ q ∷ [])
all_push P [] q each here = (here, tt)
all_push P (p ∷ qs) q each here = (each.0, all_push P qs q each.1 here)

pub loop-object-preserved : goal.loop-object-preserved
loop-object-preserved c =
    let l = c.loop-object in
    let object = get_or c.reserved-reserved.result.now l.object-index 0 in
    let q : ℕ × QueueState = (object, c.in_ok-new.field-0) in
    let P = IsReadyQueue c.args.number c.args.index (block_at c.args.program.now c.args.number c.args.index) in
    record {
      objects = ap (map (λ (q : ℕ × QueueState). q.0)) c.push_back_reserved.ensures.items
          ∙ (objects_push l.queues.items q ∙ (ap (λ os. os ++ object ∷ []) l.invariant.objects ∙ sym (take_more c.reserved-reserved.result.now l.object-index 0 c.loop-object-test.true)));
      queues = subst (AllByRecursion P) (sym c.push_back_reserved.ensures.items) (all_push P l.queues.items q l.invariant.queues (ap (λ (q : QueueState). q.queue) c.in_ok-new.ensures.fresh, omega (arith, ap (λ (q : QueueState). q.room) c.in_ok-new.ensures.fresh, c.load_of-requests.ensures.value)));
      room = omega (arith, l.invariant.room, c.push_back_reserved.ensures.len, c.push_back_reserved.ensures.capacity, c.loop-object-test.true);
    }
