-- A handler's whole run, from its first ticket until no further one comes: a turn for each ticket, one after another.
use Rattle.std.specs.Prelude.{◌≡◌, ℕ, ◌==◌, false, List, [], ◌∷◌, ◌++◌, map, filter, flat_map}
use Rattle.qs_objects.specs.audit.Journals.{HeldState}
use Rattle.qs_objects.specs.declared.held.Next.TheVariants.{Ticket, Closed}
use Rattle.qs_objects.specs.declared.held.Ticket as tickets
use Rattle.qs_chunk.specs.LaneViews.{HandlerLane, over}
use Rattle.qs_chunk.specs.declared.parcel.Parcel.{Parcel}
use Rattle.qs_handler.specs.audit.Handler.{free, closed}
use Rattle.qs_handler.specs.audit.HandlerRuns.{Task, TasksLead, received_from, given_to, taken_by}

-- what a handler did for one ticket: the parcels that it received, and the objects that it gave
pub record Turn : Type 0 where
  pub ticket : tickets.Ticket
  pub received : List Parcel
  pub gave : List HeldState

-- these turns, one after another, each up to its End, lead the object from one state to another
abbrev pub TurnsLead : HeldState → List Turn → HeldState → Type 0
TurnsLead x [] z = x ≡ z
TurnsLead x (u ∷ us) z = (y : HeldState) × HandlerLane u.ticket false x u.received u.gave (over y) × TurnsLead y us z

-- the turns of a client's tickets
abbrev pub turns_for : ℕ → List Turn → List Turn
turns_for client turns = filter (λ (u : Turn). u.ticket.client == client) turns

-- The turns of a run. It took their tickets from its queue, and then that no further one comes; and what it received
-- from a client, and gave to it, is what that client's turns have, in their order.
pub record HasTurns (x : HeldState) (tasks : List Task) (z : HeldState) : Type 0 where
  pub turns : List Turn
  pub lead : TurnsLead x turns z
  pub taken : taken_by tasks ≡ map (λ (u : Turn). Ticket u.ticket) turns ++ Closed ∷ []
  pub received : (client : ℕ) → received_from client tasks
      ≡ flat_map (λ (u : Turn). u.received) (turns_for client turns)
  pub given : (client : ℕ) → given_to client tasks ≡ flat_map (λ (u : Turn). u.gave) (turns_for client turns)

-- whatever it was asked to do, from its first ticket until it is closed, was a turn for each ticket
abbrev pub HandlersTakeTurns : Type 0
HandlersTakeTurns = (x z : HeldState) (tasks : List Task) → TasksLead (free x) tasks (closed z) → HasTurns x tasks z
