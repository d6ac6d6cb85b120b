-- Where an item is logged at each handler of a list, or a private queue comes to each, a handler has then got exactly
-- that, or it is as it was. The lemmas on a step in a block and on the beginning of one (`RulesGo`, `RulesBegin`) need
-- it to say what holds of all handlers afterwards. The proof goes by induction on the list, which names each handler
-- once.
use Rattle.std.proofs.Common.{◌≡◌, ◌≢◌, ◌<◌, ℕ, ◌==◌, false, ◌⊎◌, inl, inr, List, [], ◌∷◌, map, length, refl, ap, sym, subst, ◌∙◌, arith, length-set, get_or-set_other, get_or-set_same}
use Rattle.std.specs.List.{AllByRecursion, IsDistinct}
use Rattle.qs_played.proofs.Names.{IsDistinct-head, IsDistinct-tail, Ticket}
use Rattle.qs_played.proofs.Lists.{apart}
use Rattle.qs_plain_laws.specs.declared.item.QueueItem.{QueueItem}
use Rattle.qs_plain.proofs.Names.{QueueState, handler_state_at, nobody, with_logged_item, logged_at, logged_all, with_queue, entered_at, entered_all, HandlerState}

-- two numbers are equal or not
pub equal_or_not : (m n : ℕ) → (m ≡ n) ⊎ (m ≢ n)
equal_or_not m n = grind arith

pub length-logged_all : (t : Ticket) (i : QueueItem) (hs : List HandlerState) (rs : List ℕ) → length (logged_all t i hs rs) ≡ length hs
length-logged_all t i hs [] = refl
length-logged_all t i hs (h ∷ rest) = length-logged_all t i (logged_at t i hs h) rest ∙ length-set hs h (with_logged_item t i (handler_state_at hs h))

pub length-entered_all : (hs : List HandlerState) (qs : List (ℕ × QueueState)) → length (entered_all hs qs) ≡ length hs
length-entered_all hs [] = refl
length-entered_all hs (q ∷ rest) = length-entered_all (entered_at hs q) rest ∙ length-set hs q.0 (with_queue q.1 (handler_state_at hs q.0))

logged_elsewhere : (t : Ticket) (i : QueueItem) (hs : List HandlerState) (rs : List ℕ) (k : ℕ) → AllByRecursion (λ y. (k == y) ≡ false) rs → handler_state_at (logged_all t i hs rs) k ≡ handler_state_at hs k
logged_elsewhere t i hs [] k far = refl
logged_elsewhere t i hs (h ∷ rest) k far =
    logged_elsewhere t i (logged_at t i hs h) rest k far.1
    ∙ get_or-set_other hs h k (with_logged_item t i (handler_state_at hs h)) nobody (λ same. apart k h far.0 (sym same))

-- an item was logged at the handler, or it is as it was
pub logged_each : (t : Ticket) (i : QueueItem) (hs : List HandlerState) (rs : List ℕ) → IsDistinct ◌==◌ rs → AllByRecursion (λ h. h < length hs) rs → (k : ℕ)
    → (handler_state_at (logged_all t i hs rs) k ≡ handler_state_at hs k) ⊎ (handler_state_at (logged_all t i hs rs) k ≡ with_logged_item t i (handler_state_at hs k))
logged_each t i hs [] distinct inside k = inl refl
logged_each t i hs (h ∷ rest) distinct inside k = by_place (equal_or_not k h)
    (logged_each t i (logged_at t i hs h) rest (IsDistinct-tail ◌==◌ h rest distinct) (subst (λ n. AllByRecursion (λ x. x < n) rest) (sym (length-set hs h (with_logged_item t i (handler_state_at hs h)))) inside.1) k)
  where
    here : k ≡ h → handler_state_at (logged_all t i (logged_at t i hs h) rest) k ≡ with_logged_item t i (handler_state_at hs k)
    here same = subst (λ n. handler_state_at (logged_all t i (logged_at t i hs h) rest) n ≡ with_logged_item t i (handler_state_at hs n)) (sym same)
        (logged_elsewhere t i (logged_at t i hs h) rest h (IsDistinct-head ◌==◌ h rest distinct) ∙ get_or-set_same hs h (with_logged_item t i (handler_state_at hs h)) nobody inside.0)

    there : k ≢ h → handler_state_at (logged_at t i hs h) k ≡ handler_state_at hs k
    there other = get_or-set_other hs h k (with_logged_item t i (handler_state_at hs h)) nobody other

    by_place : (k ≡ h) ⊎ (k ≢ h) → (handler_state_at (logged_all t i (logged_at t i hs h) rest) k ≡ handler_state_at (logged_at t i hs h) k) ⊎ (handler_state_at (logged_all t i (logged_at t i hs h) rest) k ≡ with_logged_item t i (handler_state_at (logged_at t i hs h) k))
        → (handler_state_at (logged_all t i (logged_at t i hs h) rest) k ≡ handler_state_at hs k) ⊎ (handler_state_at (logged_all t i (logged_at t i hs h) rest) k ≡ with_logged_item t i (handler_state_at hs k))
    by_place (inl same) later = inr (here same)
    by_place (inr other) (inl as_it_was) = inl (as_it_was ∙ there other)
    by_place (inr other) (inr with_item) = inr (with_item ∙ ap (with_logged_item t i) (there other))

entered_elsewhere : (hs : List HandlerState) (qs : List (ℕ × QueueState)) (k : ℕ) → AllByRecursion (λ y. (k == y) ≡ false) (map (λ (q : ℕ × QueueState). q.0) qs) → handler_state_at (entered_all hs qs) k ≡ handler_state_at hs k
entered_elsewhere hs [] k far = refl
entered_elsewhere hs (q ∷ rest) k far =
    entered_elsewhere (entered_at hs q) rest k far.1
    ∙ get_or-set_other hs q.0 k (with_queue q.1 (handler_state_at hs q.0)) nobody (λ same. apart k q.0 far.0 (sym same))

-- a private queue with the property came to the handler, or it is as it was
pub entered_each : (P : ℕ → QueueState → Type 0) (hs : List HandlerState) (qs : List (ℕ × QueueState)) → AllByRecursion (λ (q : ℕ × QueueState). P q.0 q.1) qs
    → IsDistinct ◌==◌ (map (λ (q : ℕ × QueueState). q.0) qs) → AllByRecursion (λ h. h < length hs) (map (λ (q : ℕ × QueueState). q.0) qs) → (k : ℕ)
    → (handler_state_at (entered_all hs qs) k ≡ handler_state_at hs k) ⊎ ((q : QueueState) × P k q × (handler_state_at (entered_all hs qs) k ≡ with_queue q (handler_state_at hs k)))
entered_each P hs [] each distinct inside k = inl refl
entered_each P hs (x ∷ rest) each distinct inside k = by_place (equal_or_not k x.0)
    (entered_each P (entered_at hs x) rest each.1 (IsDistinct-tail ◌==◌ x.0 (map (λ (q : ℕ × QueueState). q.0) rest) distinct)
    (subst (λ n. AllByRecursion (λ y. y < n) (map (λ (q : ℕ × QueueState). q.0) rest)) (sym (length-set hs x.0 (with_queue x.1 (handler_state_at hs x.0)))) inside.1) k)
  where
    here : k ≡ x.0 → handler_state_at (entered_all (entered_at hs x) rest) k ≡ with_queue x.1 (handler_state_at hs k)
    here same = subst (λ n. handler_state_at (entered_all (entered_at hs x) rest) n ≡ with_queue x.1 (handler_state_at hs n)) (sym same)
        (entered_elsewhere (entered_at hs x) rest x.0 (IsDistinct-head ◌==◌ x.0 (map (λ (q : ℕ × QueueState). q.0) rest) distinct) ∙ get_or-set_same hs x.0 (with_queue x.1 (handler_state_at hs x.0)) nobody inside.0)

    there : k ≢ x.0 → handler_state_at (entered_at hs x) k ≡ handler_state_at hs k
    there other = get_or-set_other hs x.0 k (with_queue x.1 (handler_state_at hs x.0)) nobody other

    by_place : (k ≡ x.0) ⊎ (k ≢ x.0) → (handler_state_at (entered_all (entered_at hs x) rest) k ≡ handler_state_at (entered_at hs x) k) ⊎ ((q : QueueState) × P k q × (handler_state_at (entered_all (entered_at hs x) rest) k ≡ with_queue q (handler_state_at (entered_at hs x) k)))
        → (handler_state_at (entered_all (entered_at hs x) rest) k ≡ handler_state_at hs k) ⊎ ((q : QueueState) × P k q × (handler_state_at (entered_all (entered_at hs x) rest) k ≡ with_queue q (handler_state_at hs k)))
    by_place (inl same) later = inr (x.1, subst (λ n. P n x.1) (sym same) each.0, here same)
    by_place (inr other) (inl as_it_was) = inl (as_it_was ∙ there other)
    by_place (inr other) (inr (q, holds, came)) = inr (q, holds, came ∙ ap (with_queue q) (there other))
