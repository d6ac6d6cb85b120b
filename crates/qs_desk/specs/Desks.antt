-- What a desk keeps.
use Rattle.std.specs.Prelude.{◌≡◌, ℕ, ◌<◌, Bool, List, length, slice_index}
use Rattle.atomic_table.specs.Seated.{TableId}
use Rattle.qs_objects.specs.declared.held.Ticket.{Ticket}
use Rattle.qs_program.specs.audit.Program.{ProgramShape}
use Rattle.qs_meaning.specs.audit.Serial.{IsLegal}
use Rattle.qs_program.specs.Sound.{IsSound}
use Rattle.qs_program.specs.audit.Limits.{most_clients}
use Rattle.qs_desk.specs.TicketQueues.{QueueView, queue_at, IsQueueOf}
use Rattle.qs_desk.specs.audit.Tickets.{of_client}

-- the history is a legal order; what was pushed to a handler are its tickets that reserve the handler, in that order;
-- the books have each client's tickets
pub record IsDesk (p : ProgramShape) (names : List TableId) (history : List Ticket) (closed : Bool)
    (senders : List QueueView) (books : List ℕ) : Type 0 where
  pub sound : IsSound p
  pub legal : IsLegal p history
  pub pushed : (h : ℕ) → h < length senders → IsQueueOf p names history closed h (queue_at senders h)
  pub all : (length senders ≡ length names) × (length names ≡ length p.objects)
  pub counted : (c : ℕ) → c < most_clients → slice_index books c ≡ length (of_client c history)
  pub eight : length books ≡ most_clients
