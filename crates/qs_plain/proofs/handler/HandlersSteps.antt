-- What is asked of each handler of a list still holds of all of them after a change at a handler that is not in the
-- list. The loops of `enter_all` and `log_all` change the handlers of a block's list one after another, and what the
-- rest of them must fulfil has to last. The proof goes by induction on the list.
use Rattle.std.proofs.Common.{◌≡◌, ◌<◌, ℕ, ◌==◌, false, List, [], ◌∷◌, length, sym, subst, length-set, get_or-set_other}
use Rattle.qs_played.proofs.Names.{AllByRecursion, set}
use Rattle.qs_played.proofs.Lists.{apart}
use Rattle.qs_plain.proofs.Names.{handler_state_at, nobody, HandlerState}

abbrev pub Can : (HandlerState → Type 0) → List HandlerState → ℕ → Type 0
Can P hs h = (h < length hs) × P (handler_state_at hs h)

-- a change at one handler leaves what holds at others
pub can_after : (P : HandlerState → Type 0) (hs : List HandlerState) (h : ℕ) (x : HandlerState) (ks : List ℕ) → AllByRecursion (Can P hs) ks → AllByRecursion (λ y. (h == y) ≡ false) ks
    → AllByRecursion (Can P (set hs h x)) ks
can_after P hs h x [] each far = tt
can_after P hs h x (k ∷ ks) each far =
    let there : handler_state_at (set hs h x) k ≡ handler_state_at hs k = get_or-set_other hs h k x nobody (apart h k far.0) in
    ((rw length-set each.0.0, subst P (sym there) each.0.1), can_after P hs h x ks each.1 far.1)
