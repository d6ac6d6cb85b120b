-- The contracts of `log`, `log_command` and `log_query` say what all private queues of a handler are once an item was
-- logged, while the code has written to one place of its list. The lemmas on that place are those of `OnePlace`.
use Rattle.std.proofs.Common.{◌≡◌, ◌<◌, ℕ, ◌+◌, true, List, map, drop, length, get_or, ap, sym, subst, ◌∙◌, rules}
use Rattle.qs_played.proofs.Names.{set, drop-set-add, get_or-drop, HeldState, Ticket, same}
use Rattle.qs_plain_laws.specs.declared.item.QueueItem.{QueueItem}
use Rattle.qs_plain.proofs.Names.{IsPlace, QueueState, after_put, with_logged_item, HandlerState, IsLoggable}
use Rattle.qs_plain.proofs.client.OnePlace.{put_here}

-- The queue at place m of the code's list is at place n of those that wait, which stand behind those that the handler
-- has left.
module _ (t : Ticket) (items : List QueueState) (left room : ℕ) (held : HeldState) (now : HandlerState) (is_now : record { queues = drop left items; room = room; held = held } ≡ now) (loggable : IsLoggable t now.queues)
    (m n : ℕ) (at : m ≡ left + n) (less : n < length now.queues) (q : QueueState) (is_q : q ≡ get_or items m q) where
  waits : q ≡ get_or now.queues n q
  waits = is_q ∙ ap (λ k. get_or items k q) at ∙ sym (get_or-drop left items n q) ∙ ap (λ (x : HandlerState). get_or x.queues n q) is_now

  pub room_there : same t q.queue.ticket ≡ true → 0 < q.room
  room_there mine = subst (λ (x : QueueState). 0 < x.room) (sym waits) (loggable.0 n q less (subst (λ (x : QueueState). same t x.queue.ticket ≡ true) waits mine))

  pub logged_there : IsPlace t now.queues n → (i : QueueItem) (new : QueueState) → new ≡ after_put t i q
      → record { queues = drop left (set items m new); room = room; held = held } ≡ with_logged_item t i now
  logged_there place i new is = search (rules, drop, set, map, drop-set-add, waits, put_here, loggable)
