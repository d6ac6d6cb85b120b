-- Each private queue of a handler is of another ticket. So an item that is logged for a ticket goes into the one queue
-- that was found, and no other is looked at. The tickets still differ after a step. The proofs go by induction on the
-- list of queues.
use Rattle.std.proofs.Common.{◌≡◌, ◌≢◌, ◌<◌, ℕ, zero, suc, true, false, List, [], ◌∷◌, ◌++◌, map, length, get_or, refl, ap, sym, ◌∙◌, arith, rules}
use Rattle.qs_played.proofs.Names.{AllByRecursion, set, Ticket, same, not_same, ticket_cases, AllByRecursion-get_or}
use Rattle.qs_plain_laws.specs.declared.item.QueueItem.{QueueItem}
use Rattle.qs_plain.specs.client.Queues.{AreApart, QueueState, after_put}

same_is : (t u : Ticket) → same t u ≡ true → t ≡ u
same_is t u e = search (rules, ticket_cases)

module _ (t : Ticket) (i : QueueItem) where
  put_elsewhere : (q : QueueState) → same t q.queue.ticket ≡ false → after_put t i q ≡ q
  put_elsewhere q other = grind arith

  -- where none is the ticket's, all stay
  pub put_nowhere : (qs : List QueueState) → AllByRecursion (λ (q : QueueState). same t q.queue.ticket ≡ false) qs → map (after_put t i) qs ≡ qs
  put_nowhere [] far = refl
  put_nowhere (q ∷ qs) far = λ k. put_elsewhere q far.0 k ∷ put_nowhere qs far.1 k

  others : (q : QueueState) (qs : List QueueState) → t ≡ q.queue.ticket → AllByRecursion (λ (x : QueueState). q.queue.ticket ≢ x.queue.ticket) qs → AllByRecursion (λ (x : QueueState). same t x.queue.ticket ≡ false) qs
  others q [] is apart = tt
  others q (x ∷ qs) is apart = (not_same t x.queue.ticket (λ e. apart.0 (sym is ∙ e)), others q qs is apart.1)

  -- the one that is the ticket's is the only one that changes
  pub put_here : (qs : List QueueState) (n : ℕ) (d : QueueState) → AreApart qs → n < length qs → same t (get_or qs n d).queue.ticket ≡ true → set qs n (after_put t i (get_or qs n d)) ≡ map (after_put t i) qs
  put_here [] n d apart less mine = absurd (omega arith)
  put_here (q ∷ qs) zero d apart less mine = ap (λ rest. after_put t i q ∷ rest) (sym (put_nowhere qs (others q qs (same_is t q.queue.ticket mine) apart.0)))
  put_here (q ∷ qs) (suc n) d apart less mine =
      let far : q.queue.ticket ≢ (get_or qs n d).queue.ticket = AllByRecursion-get_or (λ (x : QueueState). q.queue.ticket ≢ x.queue.ticket) qs n d apart.0 (omega arith) in
      let other : same t q.queue.ticket ≡ false = not_same t q.queue.ticket (λ e. far (sym e ∙ same_is t (get_or qs n d).queue.ticket mine)) in
      λ k. sym (put_elsewhere q other) k ∷ put_here qs n d apart.1 (omega arith) mine k

  -- what was logged leaves the tickets as they are
  still_other : (u : Ticket) (qs : List QueueState) → AllByRecursion (λ (x : QueueState). u ≢ x.queue.ticket) qs → AllByRecursion (λ (x : QueueState). u ≢ x.queue.ticket) (map (after_put t i) qs)
  still_other u [] apart = tt
  still_other u (q ∷ qs) apart = (apart.0, still_other u qs apart.1)

  pub apart_put : (qs : List QueueState) → AreApart qs → AreApart (map (after_put t i) qs)
  apart_put [] apart = tt
  apart_put (q ∷ qs) apart = (still_other q.queue.ticket qs apart.0, apart_put qs apart.1)

other_push : (u : Ticket) (qs : List QueueState) (q : QueueState) → AllByRecursion (λ (x : QueueState). u ≢ x.queue.ticket) qs → u ≢ q.queue.ticket → AllByRecursion (λ (x : QueueState). u ≢ x.queue.ticket) (qs ++ q ∷ [])
other_push u [] q apart other = (other, tt)
other_push u (x ∷ qs) q apart other = (apart.0, other_push u qs q apart.1 other)

-- one more of another ticket than all that are there
pub apart_push : (qs : List QueueState) (q : QueueState) → AreApart qs → AllByRecursion (λ (x : QueueState). x.queue.ticket ≢ q.queue.ticket) qs → AreApart (qs ++ q ∷ [])
apart_push [] q apart other = (tt, tt)
apart_push (x ∷ qs) q apart other = (other_push x.queue.ticket qs q apart.0 other.0, apart_push qs q apart.1 other.1)
