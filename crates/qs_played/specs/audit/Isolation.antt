-- Isolation: what each reservation did is what its block does alone, at its place in the order of reservations.
use Rattle.std.specs.Prelude.{ℕ, Bool, false, List, [], slice_index_or}
use Rattle.qs_objects.specs.audit.Act.{State}
use Rattle.qs_objects.specs.declared.held.Entry.{Entry}
use Rattle.qs_objects.specs.declared.held.Event.{Event}
use Rattle.qs_objects.specs.declared.held.Ticket.{Ticket}
use Rattle.qs_meaning.specs.audit.Serial.{no_state}
use Rattle.qs_played.specs.audit.Played.{ticket, Played}

-- what a run shows of its i-th reservation
abbrev pub ticket_at : Played → ℕ → Ticket
ticket_at r i = slice_index_or r.order i (ticket 0 0)

abbrev pub trace_of : Played → ℕ → List Event
trace_of r i = slice_index_or r.traces i []

abbrev pub ended_of : Played → ℕ → Bool
ended_of r i = slice_index_or r.ended i false

-- and of object h
abbrev pub journal_of : Played → ℕ → List Entry
journal_of r h = slice_index_or r.journals h []

abbrev pub state_of : Played → ℕ → State
state_of r h = slice_index_or r.states h no_state
