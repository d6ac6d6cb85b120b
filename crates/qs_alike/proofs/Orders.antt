-- A block is run by its client's new number as it was by the old one, since the text and the variables there are the
-- same. So an order and its change lead to a configuration and its change, by induction on the order.
use Rattle.std.proofs.Common.{◌≡◌, ℕ, suc, ◌<◌, List, [], ◌∷◌, length, slice_index_or, refl, sym, ap, ◌∙◌, subst, arith}
use Rattle.qs_alike.proofs.Common.{blocks_of, BlockShape, client_at, complete_orders_leave_none, Configuration, configuration_after, configuration_from, configurations_follow_orders, first_configuration, IsComplete, IsLegal, LegalFrom, nat_tests, no_block, one_block_on, ProgramShape, put, solo, Ticket}
use Rattle.qs_meaning.specs.Configurations.{outcome_in, outcome_of}
use Rattle.qs_alike.specs.Changes.{AreClasses, Change, ChangesKeepOrders, ChangesKeepOutcomes, Classes, IsChange, changed, changed_order, changed_outcome}

module _ (p : ProgramShape) (k : Classes) (are : AreClasses p k) (x : Change) (is : IsChange k x) where
  same_blocks : (c : ℕ) → (client_at p c).blocks ≡ (client_at p (x.new c)).blocks
  same_blocks c = are.blocks c (x.new c) (sym (is.alike c))

  -- what is put at a client's old number is found at the new one
  put_changed : {A : Type 0} (f : ℕ → A) (c : ℕ) (v : A) → put (λ m. f (x.old m)) (x.new c) v ≡ (λ m. put f c v (x.old m))
  put_changed f c v = λ i k. at k i
    where
      at : (k : ℕ) → put (λ k. f (x.old k)) (x.new c) v k ≡ put f c v (x.old k)
      at k = let back = is.back k in let there = is.there c in grind (arith, nat_tests)

  -- the next block of a client by its new number
  module _ (g : Configuration) (c : ℕ) where
    -- with the counts and the variables of client d, and a block of these
    abbrev ran : ℕ → List BlockShape → Configuration
    ran d blocks =
        let o = solo (slice_index_or blocks (g.begun d) no_block).body (g.locals d) g.states in
        record {
          begun = put (λ k. g.begun (x.old k)) (x.new c) (suc (g.begun d));
          locals = put (λ k. g.locals (x.old k)) (x.new c) o.locals;
          states = o.states;
        }

    here : one_block_on p (x.new c) (changed x g) ≡ ran c (client_at p c).blocks
    here = let e : x.old (x.new c) ≡ c = is.there c in
        let b : (client_at p (x.new c)).blocks ≡ (client_at p c).blocks = sym (same_blocks c) in
        λ i. ran (e i) (b i)

    pub one_changed : one_block_on p (x.new c) (changed x g) ≡ changed x (one_block_on p c g)
    one_changed =
        let o = solo (slice_index_or (client_at p c).blocks (g.begun c) no_block).body (g.locals c) g.states in
        here ∙ (λ i. record { begun = (put_changed g.begun c (suc (g.begun c))) i; locals = (put_changed g.locals c o.locals) i; states = o.states })

  pub leads_from : (g : Configuration) (ts : List Ticket) → configuration_from p (changed x g) (changed_order x ts) ≡ changed x (configuration_from p g ts)
  leads_from g [] = refl
  leads_from g (t ∷ ts) =
      ap (λ h. configuration_from p h (changed_order x ts)) (one_changed g t.client) ∙ leads_from (one_block_on p t.client g) ts

  pub legal_from : (n : ℕ → ℕ) (ts : List Ticket) → LegalFrom p n ts → LegalFrom p (λ k. n (x.old k)) (changed_order x ts)
  legal_from n [] legal = legal
  legal_from n (t ∷ ts) legal = (
    legal.0 ∙ ap n (sym (is.there t.client)),
    subst (λ bs. t.index < length bs) (same_blocks t.client) legal.1,
    subst (λ m. LegalFrom p m (changed_order x ts)) (sym (put_changed n t.client (suc t.index)))
        (legal_from (put n t.client (suc t.index)) ts legal.2),
  )

  pub leads : (order : List Ticket) → configuration_after p (changed_order x order) ≡ changed x (configuration_after p order)
  leads order = leads_from (first_configuration p) order

  pub legal_changed : (order : List Ticket) → IsLegal p order → IsLegal p (changed_order x order)
  legal_changed order legal = legal_from (λ _. 0) order legal

  -- as many blocks at the place that a client left as at the place that it came to
  pub as_many : (c : ℕ) → blocks_of p (x.old c) ≡ blocks_of p c
  as_many c = ap length (same_blocks (x.old c)) ∙ ap (blocks_of p) (is.back c)

  complete_changed : (order : List Ticket) → IsComplete p order → IsComplete p (changed_order x order)
  complete_changed order whole =
      (complete_orders_leave_none p (changed_order x order) (legal_changed order whole.legal)).1
      (λ c. ap (λ h. h.begun c) (leads order)
      ∙ ((complete_orders_leave_none p order whole.legal).0 whole (x.old c) ∙ as_many c))

  outcome_changed : (order : List Ticket) → IsLegal p order → outcome_of p (changed_order x order) ≡ changed_outcome x (outcome_of p order)
  outcome_changed order legal =
      sym (configurations_follow_orders p (changed_order x order) (legal_changed order legal))
      ∙ (ap outcome_in (leads order) ∙ ap (changed_outcome x) (configurations_follow_orders p order legal))

pub changes_keep_orders : ChangesKeepOrders
changes_keep_orders p k are x is order = record {
  legal = legal_changed p k are x is order;
  complete = complete_changed p k are x is order;
  leads = leads p k are x is order;
}

pub changes_keep_outcomes : ChangesKeepOutcomes
changes_keep_outcomes p k are x is o (order, whole, same) =
    (changed_order x order, complete_changed p k are x is order whole, outcome_changed p k are x is order whole.legal ∙ ap (changed_outcome x) same)
