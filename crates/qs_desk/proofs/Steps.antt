-- A desk stays a desk: its history is a legal order, each handler's queue has the tickets that reserve it, and the
-- books count each client's tickets. The proofs of `book` and `close` stand on it. Each field of the invariant `IsDesk`
-- is shown again for the history with one more ticket, or for the closed queues.
use Rattle.std.proofs.Common.{◌≡◌, ℕ, ◌+◌, ◌<◌, ◌≤◌, ◌==◌, true, false, List, [], ◌∷◌, ◌++◌, cond, length, ap, sym, ◌∙◌, subst, arith, length-append, length-set, ◌≢◌, ⊎_elim, get_or-set_other, rules}
use Rattle.std.proofs.lemmas.Grind.{get_or-set_at}
use Rattle.std.proofs.lemmas.Bool.Decides.{eqb_tells}
use Rattle.std.proofs.lemmas.List.Elements.{filter-append}
use Rattle.std.specs.Prelude.{slice_index, slice_set, nat_eq}
use Rattle.atomic_table.specs.Seated.{TableId}
use Rattle.qs_objects.specs.declared.held.Ticket.{Ticket}
use Rattle.qs_program.specs.audit.Program.{ProgramShape, blocks_of}
use Rattle.qs_meaning.specs.audit.Serial.{IsLegal}
use Rattle.qs_program.specs.audit.Limits.{most_clients}
use Rattle.qs_desk.specs.Desks.{IsDesk}
use Rattle.qs_desk.specs.Limits.{all_bookings}
use Rattle.qs_desk.specs.TicketQueues.{QueueView, queue_at, IsQueueOf, with_ticket, closed_queue, MayGrow, MayClose}
use Rattle.qs_desk.specs.audit.Tickets.{of_client}
use Rattle.qs_desk.specs.Tickets.{ticket}
use Rattle.qs_desk.proofs.Orders.{legal_more, short}
use Rattle.qs_desk.proofs.Pushing.{may_grow, may_close, is_grown, is_closed}

module _ (p : ProgramShape) (names : List TableId) (history : List Ticket) (senders : List QueueView) (books : List ℕ) (is : IsDesk p names history false senders books) where
  pub few_tickets : length history ≤ all_bookings
  few_tickets = short p history is.sound is.legal

  pub all_may_grow : (t : Ticket) (h : ℕ) → h < length senders → MayGrow p t h (queue_at senders h)
  all_may_grow t h less = may_grow p names history h (queue_at senders h) (is.pushed h less) t few_tickets

  pub all_may_close : (h : ℕ) → h < length senders → MayClose (queue_at senders h)
  all_may_close h less = may_close p names history h (queue_at senders h) (is.pushed h less) few_tickets

  module _ (c n : ℕ) (place : c < most_clients) (was : slice_index books c ≡ n) (some : n < blocks_of p c) where
    abbrev pub t : Ticket
    t = ticket c n

    legal : IsLegal p (history ++ t ∷ [])
    legal = legal_more p (λ _. 0) history t is.legal (omega (arith, was, is.counted c place)) some

    pub room_left : length history < all_bookings
    room_left = omega (arith, short p (history ++ t ∷ []) is.sound legal, length-append history (t ∷ []))

    more : (k : ℕ) → length (of_client k (history ++ t ∷ [])) ≡ length (of_client k history) + cond (c == k) 1 0
    more k = search (rules, filter-append, t, length-append)

    book_more : (k : ℕ) → slice_index (slice_set books c (n + 1)) k ≡ slice_index books k + cond (c == k) 1 0
    book_more k =
        ⊎_elim
        (λ (x : (nat_eq c k ≡ true) × (c ≡ k)).
        let at : slice_index (slice_set books c (n + 1)) k ≡ n + 1 = get_or-set_at books c k (n + 1) 0 (sym x.1) (omega (arith, place, is.eight)) in
        let here : slice_index books k ≡ n = ap (slice_index books) (sym x.1) ∙ was in rw x.0 (omega (arith, at, here)))
        (λ (x : (nat_eq c k ≡ false) × (c ≢ k)).
        let at : slice_index (slice_set books c (n + 1)) k ≡ slice_index books k = get_or-set_other books c k (n + 1) 0 (λ e. x.1 (sym e)) in rw x.0 (omega (arith, at)))
        (eqb_tells c k)

    pub desk_more : (lines' : List QueueView) → length lines' ≡ length senders → ((h : ℕ) → h < length senders → queue_at lines' h ≡ with_ticket p t h (queue_at senders h))
        → IsDesk p names (history ++ t ∷ []) false lines' (slice_set books c (n + 1))
    desk_more lines' len grew = record {
      sound = is.sound;
      legal = legal;
      pushed = λ h less.
          let less' : h < length senders = omega (arith, less, len) in
          subst (IsQueueOf p names (history ++ t ∷ []) false h) (sym (grew h less')) (is_grown p names history h (queue_at senders h) (is.pushed h less') t);
      all = (len ∙ is.all.0, is.all.1);
      counted = λ k less. book_more k ∙ ap (λ m. m + cond (c == k) 1 0) (is.counted k less) ∙ sym (more k);
      eight = length-set books c (n + 1) ∙ is.eight;
    }

  pub desk_closed : (lines' : List QueueView) → length lines' ≡ length senders → ((h : ℕ) → h < length senders → queue_at lines' h ≡ closed_queue (queue_at senders h))
      → IsDesk p names history true lines' books
  desk_closed lines' len grew = search (rules, is, legal, is_closed)
