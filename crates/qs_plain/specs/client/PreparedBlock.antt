-- What is prepared for a block to come.
use Rattle.std.specs.Prelude.{◌≡◌, ◌≤◌, ℕ, ◌+◌, List, [], ◌∷◌, map}
use Rattle.std.specs.List.{AllByRecursion}
use Rattle.qs_program.specs.audit.Loads.{load_of}
use Rattle.qs_program.specs.audit.Program.{BlockShape, ProgramShape, block_load, client_at}
use Rattle.qs_played.specs.audit.Played.{ticket}
use Rattle.qs_sync_counts.specs.audit.SyncRows.{no_syncs}
use Rattle.qs_sync_counts.specs.declared.sync_counts.SyncCount.{SyncCount}
use Rattle.qs_plain.specs.client.Queues.{QueueState}
use Rattle.qs_objects.specs.Traces.{TraceState}

-- the trace, the counts and the private queues of a block to come, each with its object
pub record PreparedState : Type 0 where
  pub trace : TraceState
  pub counts : List SyncCount
  pub queues : List (ℕ × QueueState)

-- the blocks to come, each with its trace, its counts and its private queues
abbrev pub prepared_of : List TraceState → List (List SyncCount) → List (List (ℕ × QueueState)) → List PreparedState
prepared_of traces counts [] = []
prepared_of [] counts (qs ∷ queues) = []
prepared_of (t ∷ traces) [] (qs ∷ queues) = []
prepared_of (t ∷ traces) (xs ∷ counts) (qs ∷ queues) =
    record { trace = t; counts = xs; queues = qs } ∷ prepared_of traces counts queues

-- an empty private queue with room for the block's load on its object and for the end mark
abbrev pub IsReadyQueue : ℕ → ℕ → BlockShape → ℕ × QueueState → Type 0
IsReadyQueue c k b q = (q.1.queue ≡ record { ticket = ticket c k; items = [] }) × (load_of b.body q.0 + 1 ≤ q.1.room)

-- a trace with room for the block's load, and a private queue for each object of its list
pub record IsStocked (c k : ℕ) (b : BlockShape) (x : PreparedState) : Type 0 where
  pub trace : x.trace.events ≡ []
  pub counts : x.counts ≡ no_syncs b.reserved
  pub room : block_load b ≤ x.trace.room
  pub objects : map (λ q. q.0) x.queues ≡ b.reserved
  pub queues : AllByRecursion (IsReadyQueue c k b) x.queues

-- a private queue for each object of the block's list
pub record AreQueues (c k : ℕ) (b : BlockShape) (queues : List (ℕ × QueueState)) : Type 0 where
  pub objects : map (λ q. q.0) queues ≡ b.reserved
  pub each : AllByRecursion (IsReadyQueue c k b) queues

-- the loads and the lists of a client's blocks
abbrev pub rooms_of : ProgramShape → ℕ → List ℕ
rooms_of p c = map block_load (client_at p c).blocks

abbrev pub reserved_lists : ProgramShape → ℕ → List (List ℕ)
reserved_lists p c = map (λ (b : BlockShape). b.reserved) (client_at p c).blocks
