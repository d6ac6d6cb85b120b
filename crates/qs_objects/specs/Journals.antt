-- Beside what the headline reaches (`audit/Journals.antt`): what else contracts and proofs use.
use Rattle.std.specs.Prelude.{◌≡◌}
use Rattle.std.specs.Coded.{Coded, codes}
use Rattle.qs_objects.specs.audit.Act.{State}
use Rattle.qs_objects.specs.declared.held.Ticket.{Ticket}
use Rattle.qs_objects.specs.audit.Journals.{without_tickets, replay, IsHonest, HeldState}

-- the journal is honest from this start, and its replay is the object
pub record IsFaithful (start : State) (h : HeldState) : Type 0 where
  pub honest : IsHonest start (without_tickets h.journal)
  pub object : replay start (without_tickets h.journal) ≡ h.object

-- tickets as codes
pub ticket_code : Coded Ticket
ticket_code = hlevel codes
