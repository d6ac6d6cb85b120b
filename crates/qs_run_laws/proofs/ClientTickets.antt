-- The tickets of one client in a legal order are those of its first blocks, one after another. A client's own lists go
-- block by block, and an object's journal goes along the order; these lemmas lead from one to the other, as lists along
-- a client's tickets are lists along its blocks, and tickets of which nothing came may be left out.
use Rattle.std.proofs.Common.{◌≡◌, ◌+◌, arith, ℕ, zero, suc, Bool, true, false, if◌then◌else◌, ◌==◌, List, [], ◌∷◌, ◌++◌, map, filter, flat_map, length, refl, sym, ap, ap₂, ◌∙◌, subst, ⊎_elim, append_assoc, append-nil, rules}
use Rattle.qs_played.proofs.Names.{AllByRecursion, Ticket, eqb_self, num_cases, ticket_path, ProgramShape, LegalFrom, put, put_here, put_there, ticket}
use Rattle.qs_run_laws.proofs.Names.{Turn, turns_for, of_client}
use Rattle.qs_core_laws.proofs.Names.{counts_after, upto}

-- the d tickets of client c from the a-th on
abbrev pub tickets_from : ℕ → ℕ → ℕ → List Ticket
tickets_from c a zero = []
tickets_from c a (suc d) = ticket c a ∷ tickets_from c (suc a) d

module _ (p : ProgramShape) (c : ℕ) where
  pub legal_tickets : (n : ℕ → ℕ) (ts : List Ticket) → LegalFrom p n ts → of_client c ts ≡ tickets_from c (n c) (length (of_client c ts))
  legal_tickets n [] g = refl
  legal_tickets n (t ∷ ts) g = search (rules, put_here, eqb_self, ticket_path, put_there, num_cases, legal_tickets (put n t.client (suc t.index)) ts g.2)

  -- as many were begun as stand in the order
  pub legal_counts : (n : ℕ → ℕ) (ts : List Ticket) → LegalFrom p n ts → counts_after n ts c ≡ n c + length (of_client c ts)
  legal_counts n [] g = omega arith
  legal_counts n (t ∷ ts) g = grind (arith, put_here, eqb_self, put_there, num_cases, legal_counts (put n t.client (suc t.index)) ts g.2)

module _ {A : Type 0} (f : Ticket → List A) (c : ℕ) where
  tickets_more : (a d : ℕ) → flat_map f (tickets_from c a (suc d)) ≡ flat_map f (tickets_from c a d) ++ f (ticket c (a + d))
  tickets_more a zero = append-nil (f (ticket c a)) ∙ ap (λ n. f (ticket c n)) (let e : a ≡ a + 0 = omega arith in e)
  tickets_more a (suc d) = grind (arith, append_assoc, tickets_more (suc a) d)

  pub upto_tickets : (n : ℕ) → upto (λ k. f (ticket c k)) n ≡ flat_map f (tickets_from c 0 n)
  upto_tickets zero = refl
  upto_tickets (suc n) = grind (arith, tickets_more, upto_tickets n)

  -- tickets with nothing may be left out
  pub without_others : (mine : Ticket → Bool) (ts : List Ticket) → AllByRecursion (λ t. mine t ≡ false → f t ≡ []) ts
      → flat_map f (of_client c ts) ≡ flat_map f (of_client c (filter mine ts))
  without_others mine [] none = refl
  without_others mine (t ∷ ts) none = search (rules, filter, without_others mine ts none.1)

  pub along_turns : (us : List Turn) → flat_map f (of_client c (map (λ (u : Turn). u.ticket) us)) ≡ flat_map (λ (u : Turn). f u.ticket) (turns_for c us)
  along_turns [] = refl
  along_turns (u ∷ us) = search (rules, map, along_turns us)
