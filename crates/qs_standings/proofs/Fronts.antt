-- A list of clients names an order whose blocks are run one after another: the blocks that were run so far and those
-- that the rest of the list names make up the whole order. So where a client is not there, or has no block left, the
-- whole order is not legal; and at the end of the list the whole order was run. A legal order is named by the clients
-- of its tickets.
use Rattle.std.proofs.Common.{◌≡◌, ℕ, suc, List, [], ◌∷◌, ◌++◌, map, refl, sym, ap, ap₂, ◌∙◌, subst, append_assoc, append-nil}
use Rattle.qs_standings.proofs.Common.{Configuration, configuration_after, first_configuration, IsLegal, legal-rest, LegalFrom, one_block_on, order_from, order_of, ProgramShape, put, Ticket}
use Rattle.qs_standings.specs.Standings.{HasNext, IsFirst, IsOneOn, IsStanding, StandingShape, configuration_in}

-- the order so far, and what the rest of the list names after it
pub record IsPlacedSoFar (p : ProgramShape) (clients rest : List ℕ) (s : StandingShape) : Type 0 where
  pub standing : IsStanding p s.order s
  pub whole : order_of clients ≡ s.order ++ order_from (configuration_in s).begun rest

pub placed_on : (p : ProgramShape) (clients : List ℕ) (c : ℕ) (rest : List ℕ) (s n : StandingShape) → IsPlacedSoFar p clients (c ∷ rest) s → IsOneOn p s c n
    → IsPlacedSoFar p clients rest n
placed_on p clients c rest s n now on = record {
  standing = on.standing;
  whole =
      now.whole
      ∙ sym (append_assoc s.order (record { client = c; index = (configuration_in s).begun c } ∷ []) (order_from (one_block_on p c (configuration_in s)).begun rest))
      ∙ ap (λ ts. ts ++ order_from (one_block_on p c (configuration_in s)).begun rest) (sym on.order)
      ∙ ap (λ (g : Configuration). n.order ++ order_from g.begun rest) (sym on.next);
}

pub placed_last : (p : ProgramShape) (clients : List ℕ) (s : StandingShape) → IsPlacedSoFar p clients [] s → IsFirst p (order_of clients) s
placed_last p clients s now =
    let whole : order_of clients ≡ s.order = now.whole ∙ append-nil s.order in
    record {
      standing = subst (λ front. IsStanding p front s) (sym whole) now.standing;
      order = sym whole;
      first = now.standing.stands ∙ ap (configuration_after p) (sym whole);
    }

-- the next client of the list has a block left where the whole order is legal
pub named_left : (p : ProgramShape) (clients : List ℕ) (c : ℕ) (rest : List ℕ) (s : StandingShape) → IsPlacedSoFar p clients (c ∷ rest) s
    → IsLegal p (order_of clients) → HasNext p s c
named_left p clients c rest s now legal =
    let from : LegalFrom p (configuration_after p s.order).begun (order_from (configuration_in s).begun (c ∷ rest)) =
    legal-rest p (first_configuration p) s.order (order_from (configuration_in s).begun (c ∷ rest)) (subst (IsLegal p) now.whole legal) in
    from.1

-- a legal order is named by the clients of its tickets

abbrev pub clients_in : List Ticket → List ℕ
clients_in order = map (λ (t : Ticket). t.client) order

named_from_counts : (p : ProgramShape) (begun : ℕ → ℕ) (ts : List Ticket) → LegalFrom p begun ts → order_from begun (clients_in ts) ≡ ts
named_from_counts p begun [] legal = refl
named_from_counts p begun (t ∷ ts) legal =
    ap₂ (λ (u : Ticket) us. u ∷ us) (λ i. record { client = t.client; index = (sym legal.0) i })
    (named_from_counts p (put begun t.client (suc (begun t.client))) ts (subst (λ k. LegalFrom p (put begun t.client (suc k)) ts) legal.0 legal.2))

pub named_by_clients : (p : ProgramShape) (order : List Ticket) → IsLegal p order → order_of (clients_in order) ≡ order
named_by_clients p order legal = named_from_counts p (λ _. 0) order legal
