-- A handler's thread: what it was asked to do so far, and how that shows at its ends of lanes and of its queue of
-- tickets.
use Rattle.std.specs.Prelude.{◌≡◌, ◌≤◌, ◌+◌, ◌==◌, if◌then◌else◌, ℕ, suc, true, List, [], ◌∷◌, Option, Some, None, length, slice_index_or}
use Rattle.std.specs.List.{AllByRecursion}
use Rattle.qs_objects.specs.audit.Journals.{HeldState}
use Rattle.qs_program.specs.audit.Program.{ProgramShape}
use Rattle.qs_meaning.specs.audit.Following.{reserves}
use Rattle.qs_chunk.specs.audit.LaneRun.{syncs}
use Rattle.qs_chunk.specs.audit.Lanes.{HasSize}
use Rattle.qs_handler.specs.audit.Handler.{Handler, free}
use Rattle.qs_handler.specs.Handler.{serving}
use Rattle.qs_handler.specs.audit.HandlerRuns.{Task, takes, receives, gives, spares, TasksLead, given_to, received_from, taken_by}
use Rattle.qs_desk.specs.Views.{TicketsView}
use Rattle.qs_lane.specs.Views.{InView}

-- the end of the lane from client c, where there is one
abbrev pub in_lane_at : List (Option InView) → ℕ → Option InView
in_lane_at lanes c = slice_index_or lanes c None

-- as many objects were given as Syncs were received
abbrev pub IsAllServed : Option InView → Type 0
IsAllServed None = Unit {0}
IsAllServed (Some lane) = length lane.given ≡ syncs lane.received

-- nothing has passed
abbrev pub IsFresh : Option InView → Type 0
IsFresh None = Unit {0}
IsFresh (Some lane) = (lane.received ≡ []) × (lane.given ≡ [])

-- how many empty chunks it gave back to a client
abbrev pub spared_to : ℕ → List Task → ℕ
spared_to client [] = 0
spared_to client (takes next ∷ tasks) = spared_to client tasks
spared_to client (receives c parcel ∷ tasks) = spared_to client tasks
spared_to client (gives c x ∷ tasks) = spared_to client tasks
spared_to client (spares c chunk ∷ tasks) = if c == client then suc (spared_to client tasks) else spared_to client tasks

-- An end of the lane from client c, after these tasks: it received and gave what they say, in chunks of its size; and
-- no more empty chunks were put into the lane than they gave back to that client.
abbrev pub HasServed : ℕ → List Task → Option InView → Option InView → Type 0
HasServed c tasks None None = Unit {0}
HasServed c tasks None (Some after) = ⊥
HasServed c tasks (Some before) None = ⊥
HasServed c tasks (Some before) (Some after) =
    (after.name ≡ before.name) × (after.size ≡ before.size) × (after.received ≡ received_from c tasks)
    × (after.given ≡ given_to c tasks)
    × AllByRecursion (HasSize before.size) (received_from c tasks)
    × (before.spared ≤ after.spared) × (after.spared ≤ before.spared + spared_to c tasks)

-- These tasks lead the handler from its object to where it is; its queue of tickets and its lanes have had what they
-- say; and what it serves reserves it.
pub record IsServing (p : ProgramShape) (handler : ℕ) (x : HeldState) (start : List (Option InView)) (tasks : List Task)
    (mind : Handler)
    (tickets : TicketsView) (lanes : List (Option InView)) : Type 0 where
  pub lead : TasksLead (free x) tasks mind
  pub queue : tickets ≡ record { handler = handler; taken = taken_by tasks }
  pub ends : (c : ℕ) → HasServed c tasks (in_lane_at start c) (in_lane_at lanes c)
  pub own : AllByRecursion (λ t. reserves p t handler ≡ true) (serving mind)
