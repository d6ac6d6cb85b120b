-- From one configuration to another, or to what that becomes by a change of alike clients, all legal orders are equally
-- long: each block adds one to the count of a client.
use Rattle.std.proofs.Common.{◌≡◌, ℕ, zero, suc, ◌+◌, ◌<◌, arith, List, [], ◌∷◌, length, refl, sym, ap, ◌∙◌}
use Rattle.qs_alike.proofs.Common.{Configuration, configuration_after, configuration_from, first_configuration, has_place, IsLegal, legal_on, LegalFrom, length-map, nat_tests, one_block_on, ProgramShape, put, Ticket}
use Rattle.qs_alike.specs.Changes.{AreClasses, Becomes, Classes, changed_order, changed_ticket}
use Rattle.qs_alike.proofs.Orders.{leads, legal_changed}

pub total_of : ℕ → (ℕ → ℕ) → ℕ
total_of zero f = 0
total_of (suc n) f = total_of n f + f n

total_same : (n : ℕ) (f g : ℕ → ℕ) → ((i : ℕ) → i < n → f i ≡ g i) → total_of n f ≡ total_of n g
unfolding total_of
total_same zero f g each = refl
total_same (suc n) f g each =
    omega (arith, total_same n f g (λ i less. each i (omega (arith, less))), each n (omega arith))

put_below : (f : ℕ → ℕ) (c n v i : ℕ) → c ≡ n → i < n → put f c v i ≡ f i
put_below f c n v i e less = grind (arith, nat_tests)

total_put : (n c : ℕ) (f : ℕ → ℕ) → c < n → total_of n (put f c (suc (f c))) ≡ suc (total_of n f)
unfolding total_of
total_put zero c f less = absurd (omega (arith, less))
total_put (suc n) c f less =
    let same : c ≡ n → total_of n (put f c (suc (f c))) ≡ total_of n f = λ e. total_same n (put f c (suc (f c))) f (λ i under. put_below f c n (suc (f c)) i e under) in
    let before : c < n → total_of n (put f c (suc (f c))) ≡ suc (total_of n f) = total_put n c f in grind (arith, nat_tests)

total_after : (p : ProgramShape) (g : Configuration) (ts : List Ticket) → LegalFrom p g.begun ts
    → length ts + total_of (length p.clients) g.begun ≡ total_of (length p.clients) (configuration_from p g ts).begun
total_after p g [] legal = omega arith
total_after p g (t ∷ ts) legal =
    let one : total_of (length p.clients) (put g.begun t.client (suc (g.begun t.client))) ≡ suc (total_of (length p.clients) g.begun) =
    total_put (length p.clients) t.client g.begun (has_place p t.client t.index legal.1) in
    omega (arith, total_after p (one_block_on p t.client g) ts (legal_on p g t ts legal), one)

pub equally_long : (p : ProgramShape) (g : Configuration) (ts us : List Ticket) → LegalFrom p g.begun ts → LegalFrom p g.begun us
    → configuration_from p g ts ≡ configuration_from p g us → length ts ≡ length us
equally_long p g ts us legal other same =
    let ends : total_of (length p.clients) (configuration_from p g ts).begun ≡ total_of (length p.clients) (configuration_from p g us).begun =
    ap (λ (h : Configuration). total_of (length p.clients) h.begun) same in
    omega (arith, total_after p g ts legal, total_after p g us other, ends)

-- and so are those that lead to configurations of which one becomes the other
pub alike_long : (p : ProgramShape) (k : Classes) → AreClasses p k → (ts us : List Ticket) → IsLegal p ts → IsLegal p us
    → Becomes k (configuration_after p ts) (configuration_after p us) → length ts ≡ length us
alike_long p k are ts us legal other (x, is, e) =
    sym (length-map ts (changed_ticket x))
    ∙ equally_long p (first_configuration p) (changed_order x ts) us (legal_changed p k are x is ts legal) other
    (leads p k are x is ts ∙ sym e)
