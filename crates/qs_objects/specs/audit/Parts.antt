-- Parts of traces and of journals: what is on one object, and what is of one ticket.
use Rattle.std.specs.Prelude.{◌≡◌, ℕ, ◌==◌, Bool, ◌&&◌, List, ◌++◌, filter, None}
use Rattle.qs_objects.specs.declared.held.Entry.{Entry}
use Rattle.qs_objects.specs.declared.held.Event.{Event}
use Rattle.qs_objects.specs.declared.held.Ticket.{Ticket}
use Rattle.qs_objects.specs.declared.Request.{Request}

-- one list is a beginning of another
abbrev pub IsFront : {X : Type 0} → List X → List X → Type 0
IsFront {X} xs ys = (rest : List X) × (xs ++ rest ≡ ys)

abbrev pub same : Ticket → Ticket → Bool
same t u = (t.client == u.client) && (t.index == u.index)

-- a command as it enters a trace
abbrev pub command_event : Request → Event
command_event r = record { request = r; reply = None }

-- the part of a trace on an object
abbrev pub part : ℕ → List Event → List Event
part h es = filter (λ (e : Event). e.request.object == h) es

-- a ticket's entries in a journal
abbrev pub entries_of : Ticket → List Entry → List Entry
entries_of t j = filter (λ (x : Entry). same t x.ticket) j
