-- What a run shows, and where the clients have it.
use Rattle.std.specs.Prelude.{ℕ, Bool, List}
use Rattle.qs_objects.specs.audit.Act.{State}
use Rattle.qs_objects.specs.declared.held.Entry.{Entry}
use Rattle.qs_objects.specs.declared.held.Event.{Event}
use Rattle.qs_objects.specs.declared.held.Ticket.{Ticket}
use Rattle.qs_program.specs.audit.Values.{Locals}
use Rattle.qs_sync_counts.specs.declared.sync_counts.SyncCount.{SyncCount}

abbrev pub ticket : ℕ → ℕ → Ticket
ticket c k = record { client = c; index = k }

-- The tickets in the order of reservations, and for each of them whether its block has ended, its client's variables at
-- entry, its trace, and how many Syncs it has sent for each object of its block's list; for each object its journal and
-- state; how many Syncs there were, and whether the run is finished.
pub record Played : Type 0 where
  pub order : List Ticket
  pub ended : List Bool
  pub entries : List Locals
  pub traces : List (List Event)
  pub sync_counts : List (List SyncCount)
  pub journals : List (List Entry)
  pub states : List State
  pub syncs : ℕ
  pub finished : Bool
