-- Beside what the headline reaches (`audit/Parts.antt`): what else contracts and proofs use.
use Rattle.std.specs.Prelude.{◌≡◌, if◌then◌else◌, List, [], ◌∷◌, ◌⊎◌}
use Rattle.qs_objects.specs.declared.held.Entry.{Entry}
use Rattle.qs_objects.specs.declared.held.Event.{Event}
use Rattle.qs_objects.specs.declared.held.Ticket.{Ticket}
use Rattle.qs_objects.specs.audit.Parts.{same}

-- an event as an entry of a ticket
abbrev pub stamp : Ticket → Event → Entry
stamp t e = record { ticket = t; request = e.request; reply = e.reply }

abbrev pub HasEntry : Ticket → List Entry → Type 0
HasEntry t [] = ⊥
HasEntry t (x ∷ xs) = (t ≡ x.ticket) ⊎ HasEntry t xs

-- what stands in a journal before a ticket's first entry
abbrev pub before : Ticket → List Entry → List Entry
before t [] = []
before t (x ∷ xs) = if same t x.ticket then [] else x ∷ before t xs
