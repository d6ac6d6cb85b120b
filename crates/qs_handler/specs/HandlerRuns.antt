-- Beside what the headline reaches (`audit/HandlerRuns.antt`): what else contracts and proofs use.
use Rattle.std.specs.Prelude.{◌≡◌, ℕ, ◌+◌, true, false, List, [], ◌∷◌, ◌++◌, length}
use Rattle.std.specs.List.{AllByRecursion}
use Rattle.qs_objects.specs.audit.Journals.{HeldState}
use Rattle.qs_objects.specs.declared.Request.{Request}
use Rattle.qs_chunk.specs.audit.Batch.{Batch, batch}
use Rattle.qs_chunk.specs.audit.Lanes.{HasSize, is_asked}
use Rattle.qs_chunk.specs.audit.LaneRun.{syncs}
use Rattle.qs_handler.specs.audit.Handler.{Handler, free}
use Rattle.qs_handler.specs.HandlerLanes.{HandlerFitsLane}
use Rattle.qs_handler.specs.audit.HandlerRuns.{Task, gives, spares, TasksLead, received_from, given_to}

-- after all that it did from its first ticket on, it stands to each lane as it should, where chunks came in the lane's
-- size
abbrev pub RunsKeepLanes : Type 0
RunsKeepLanes =
    (size client : ℕ) (x : HeldState) (tasks : List Task) (end : Handler)
    → TasksLead (free x) tasks end → AllByRecursion (HasSize size) (received_from client tasks)
    → HandlerFitsLane size client end (received_from client tasks) (given_to client tasks)

-- whatever it did before, it gives a client its object only where the last parcel that it received from the client is a
-- Sync, which alone is not served yet
abbrev pub GivesFollowSyncs : Type 0
GivesFollowSyncs =
    (size client : ℕ) (x y : HeldState) (before later : List Task) (end : Handler)
    → TasksLead (free x) (before ++ gives client y ∷ later) end
    → AllByRecursion (HasSize size) (received_from client before)
    → (is_asked false (received_from client before) ≡ true)
    × (length (given_to client before) + 1 ≡ syncs (received_from client before))

-- a chunk that it gives back is empty and has the lane's size
abbrev pub SparesFollowChunks : Type 0
SparesFollowChunks =
    (size client : ℕ) (x : HeldState) (chunk : Batch Request) (before later : List Task) (end : Handler)
    → TasksLead (free x) (before ++ spares client chunk ∷ later) end
    → AllByRecursion (HasSize size) (received_from client before)
    → chunk ≡ batch [] size

pub record HandlerRunLaws : Type 0 where
  pub lanes : RunsKeepLanes
  pub gives : GivesFollowSyncs
  pub spares : SparesFollowChunks
