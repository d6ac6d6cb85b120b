-- Beside what the headline reaches (`audit/Handler.antt`): what else contracts and proofs use.
use Rattle.std.specs.Prelude.{Bool, true, false, List, [], ◌∷◌, Option, Some, None}
use Rattle.qs_objects.specs.audit.Journals.{HeldState}
use Rattle.qs_objects.specs.declared.held.Ticket.{Ticket}
use Rattle.qs_handler.specs.declared.mind.Act.{Act}
use Rattle.qs_handler.specs.declared.mind.Act.TheVariants as acts
use Rattle.qs_handler.specs.audit.Handler.{Handler, free, serves, spares, gives, away, closed}

-- mind and act together, as long as the act is not done: what it carries is still the handler's
abbrev pub with_act : Handler → Act → Handler
with_act (serves t x) (acts.Spare c chunk) = spares t x chunk.capacity
with_act (away t) (acts.Give c x) = gives t x
with_act h act = h

abbrev pub is_away : Handler → Bool
is_away (away t) = true
is_away h = false

-- its object, where it is at home
abbrev pub held_of : Handler → Option HeldState
held_of (free x) = Some x
held_of (serves t x) = Some x
held_of (spares t x n) = Some x
held_of (gives t x) = Some x
held_of (away t) = None
held_of (closed x) = Some x

-- the ticket that a handler serves, if there is one
abbrev pub serving : Handler → List Ticket
serving (free x) = []
serving (serves t x) = t ∷ []
serving (spares t x n) = t ∷ []
serving (gives t x) = t ∷ []
serving (away t) = t ∷ []
serving (closed x) = []
