use Rattle.std.proofs.Common.{◌≡◌, ℕ, ◌<◌, ◌≤◌, false, length, slice_index_or}
use Rattle.qs_meaning.specs.audit.Following.{reserves}
use Rattle.qs_program.specs.audit.Limits.{most_handlers}
use Rattle.qs_desk.specs.TicketQueues.{queue_at, with_ticket}
use Rattle.qs_desk.proofs.bookings.push_ticket.Given as goal

abbrev pub invariant-loop-handler : goal.invariant-loop-handler
invariant-loop-handler g l =
    record {
      len : length l.senders.items ≡ length l.initial.senders.items;
      eight : length l.reserved ≡ most_handlers;
      done : (k : ℕ) → k < l.handler → queue_at l.senders.items k ≡ with_ticket g.D.DeskName.program l.ticket k (queue_at l.initial.senders.items k);
      rest : (k : ℕ) → l.handler ≤ k → queue_at l.senders.items k ≡ queue_at l.initial.senders.items k;
      told : (k : ℕ) → k < l.handler → slice_index_or l.reserved k false ≡ reserves g.D.DeskName.program l.ticket k;
      untold : (k : ℕ) → l.handler ≤ k → slice_index_or l.reserved k false ≡ false;
    }
