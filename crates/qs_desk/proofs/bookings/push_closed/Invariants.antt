use Rattle.std.proofs.Common.{◌≡◌, ℕ, ◌<◌, ◌≤◌, length}
use Rattle.qs_desk.specs.TicketQueues.{queue_at, closed_queue}
use Rattle.qs_desk.proofs.bookings.push_closed.Given as goal

abbrev pub invariant-loop-handler : goal.invariant-loop-handler
invariant-loop-handler g l =
    record {
      len : length l.senders.items ≡ length l.initial.senders.items;
      done : (k : ℕ) → k < l.handler → queue_at l.senders.items k ≡ closed_queue (queue_at l.initial.senders.items k);
      rest : (k : ℕ) → l.handler ≤ k → queue_at l.senders.items k ≡ queue_at l.initial.senders.items k;
    }
