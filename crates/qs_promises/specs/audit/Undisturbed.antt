-- Between two requests of one block on one object no request of another block runs.
use Rattle.std.specs.Prelude.{◌≡◌, ◌<◌, ℕ, List, length, map, slice_index_or}
use Rattle.qs_objects.specs.audit.Journals.{IsHonest, replay, without_tickets}
use Rattle.qs_objects.specs.audit.Parts.{IsFront, entries_of, part}
use Rattle.qs_objects.specs.declared.held.Entry.{Entry}
use Rattle.qs_objects.specs.declared.held.Ticket.{Ticket}
use Rattle.qs_program.specs.audit.Program.{ProgramShape}
use Rattle.qs_meaning.specs.audit.Serial.{declared_states}
use Rattle.qs_played.specs.audit.Isolation.{journal_of, state_of, ticket_at, trace_of}
use Rattle.qs_played.specs.audit.Played.{Played, ticket}

-- whose requests stand in a journal, one after another
abbrev pub tickets_of : List Entry → List Ticket
tickets_of journal = map (λ (e : Entry). e.ticket) journal

abbrev pub ticket_in : List Ticket → ℕ → Ticket
ticket_in tickets n = slice_index_or tickets n (ticket 0 0)

-- between two places with one ticket each place has this ticket
abbrev pub NoOtherBetween : List Ticket → Type 0
NoOtherBetween tickets =
    (a b c : ℕ) → a < b → b < c → c < length tickets
    → ticket_in tickets a ≡ ticket_in tickets c → ticket_in tickets b ≡ ticket_in tickets a

-- Object h. Its journal is what it has run since it was declared: each reply is its own, and its state is what these
-- requests leave. Those of a block are the first that the block has made of it, in the block's order; and between two
-- of them stands none of another block.
pub record IsUndisturbed (p : ProgramShape) (r : Played) (h : ℕ) : Type 0 where
  pub honest : IsHonest (declared_states p h) (without_tickets (journal_of r h))
  pub replayed : replay (declared_states p h) (without_tickets (journal_of r h)) ≡ state_of r h
  pub own : (i : ℕ) → i < length r.order
      → IsFront (without_tickets (entries_of (ticket_at r i) (journal_of r h))) (part h (trace_of r i))
  pub alone : NoOtherBetween (tickets_of (journal_of r h))
