-- Orders compared by their clients' numbers: one that is before another stays so however the two go on, and none is
-- before an order that it goes on from. A reduced order in two parts is reduced in both, and no order leads back to
-- where it began. The least order that leads to a configuration is found by these. Each goes by induction on an order.
use Rattle.std.proofs.Common.{◌≡◌, ◌<◌, List, [], ◌∷◌, ◌++◌, refl, ap, ◌∙◌, subst, arith, inl, inr, append_assoc}
use Rattle.qs_outcomes.proofs.Common.{Configuration, configuration-append, configuration_after, configuration_from, first_configuration, IsReducedAfter, IsReducedFrom, one_block_on, ProgramShape, Ticket}
use Rattle.qs_outcomes.specs.LeastOrders.{IsBefore}

pub before_onward : (ts us rest : List Ticket) → IsBefore ts us → IsBefore (ts ++ rest) us
before_onward [] us rest h = absurd h
before_onward (t ∷ ts) [] rest h = absurd h
before_onward (t ∷ ts) (u ∷ us) rest (inl less) = inl less
before_onward (t ∷ ts) (u ∷ us) rest (inr h) = inr (h.0, before_onward ts us rest h.1)

pub before_longer : (ts us rest : List Ticket) → IsBefore ts us → IsBefore ts (us ++ rest)
before_longer [] us rest h = absurd h
before_longer (t ∷ ts) [] rest h = absurd h
before_longer (t ∷ ts) (u ∷ us) rest (inl less) = inl less
before_longer (t ∷ ts) (u ∷ us) rest (inr h) = inr (h.0, before_longer ts us rest h.1)

pub before_both : (ts us vs : List Ticket) → IsBefore ts us → IsBefore us vs → IsBefore ts vs
before_both [] us vs h k = absurd h
before_both (t ∷ ts) [] vs h k = absurd h
before_both (t ∷ ts) (u ∷ us) [] h k = absurd k
before_both (t ∷ ts) (u ∷ us) (v ∷ vs) (inl h) (inl k) = inl (omega (arith, h, k))
before_both (t ∷ ts) (u ∷ us) (v ∷ vs) (inl h) (inr k) = inl (let e : u.client ≡ v.client = k.0 in omega (arith, h, e))
before_both (t ∷ ts) (u ∷ us) (v ∷ vs) (inr h) (inl k) = inl (let e : t.client ≡ u.client = h.0 in omega (arith, e, k))
before_both (t ∷ ts) (u ∷ us) (v ∷ vs) (inr h) (inr k) = inr (h.0 ∙ k.0, before_both ts us vs h.1 k.1)

pub not_before : (ts rest : List Ticket) → IsBefore (ts ++ rest) ts → ⊥
not_before [] [] h = h
not_before [] (t ∷ rest) h = h
not_before (t ∷ ts) rest (inl less) = omega (arith, less)
not_before (t ∷ ts) rest (inr h) = not_before ts rest h.1

-- orders that go on differently
pub fork : (ts : List Ticket) (t u : Ticket) → t.client < u.client → IsBefore (ts ++ t ∷ []) (ts ++ u ∷ [])
fork [] t u less = inl less
fork (v ∷ ts) t u less = inr (refl, fork ts t u less)

reduced-join : (p : ProgramShape) (g : Configuration) (ts us : List Ticket) → IsReducedFrom p g ts → IsReducedFrom p (configuration_from p g ts) us → IsReducedFrom p g (ts ++ us)
reduced-join p g [] us h k = k
reduced-join p g (t ∷ ts) us h k = (h.0, reduced-join p (one_block_on p t.client g) ts us h.1 k)

-- where a reduced order leads, by its part after the front
after_front : (p : ProgramShape) (front order : List Ticket) (r : IsReducedAfter p front order) → configuration_after p order ≡ configuration_from p (configuration_after p front) r.rest
after_front p front order r = ap (configuration_after p) r.whole ∙ configuration-append p (first_configuration p) front r.rest

pub reduced_onward : (p : ProgramShape) (front order rest : List Ticket) → IsReducedAfter p front order → IsReducedFrom p (configuration_after p order) rest → IsReducedAfter p front (order ++ rest)
reduced_onward p front order rest r h = record {
  rest = r.rest ++ rest;
  whole = ap (λ ts. ts ++ rest) r.whole ∙ append_assoc front r.rest rest;
  reduced = reduced-join p (configuration_after p front) r.rest rest r.reduced (subst (λ g. IsReducedFrom p g rest) (after_front p front order r) h);
}
