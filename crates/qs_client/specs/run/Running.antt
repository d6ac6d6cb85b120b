-- A client within a block, by what its run keeps: one quiet move, which the code makes by `quiet_step`, and what holds
-- of the client at each stage. The rules have the names of `Client.antt` and of the code: `call`, `query`, `sync`,
-- `end_block`.
use Rattle.std.specs.Prelude.{◌≡◌, ◌<◌, ◌≤◌, ℕ, ◌-◌, ◌==◌, ℤ, Bool, true, false, not, ◌&&◌, if◌then◌else◌, is_some, List, [], ◌∷◌, ◌++◌, length, Option, Some, None}
use Rattle.qs_objects.specs.audit.Journals.{HeldState, run_one}
use Rattle.qs_objects.specs.audit.Parts.{command_event}
use Rattle.qs_objects.specs.declared.held.Ticket.{Ticket}
use Rattle.qs_objects.specs.declared.Request.{Request}
use Rattle.qs_meaning.specs.audit.Solo.{event, put, value_of}
use Rattle.qs_graph.specs.audit.Nodes.{GraphNode}
use Rattle.qs_graph.specs.audit.Steps.{limit}
use Rattle.qs_graph.specs.audit.Synced.{Synced, Done, Call, Sync, Query}
use Rattle.qs_graph.specs.audit.Walk.{Spot, Move, Ends, Goes, Calls, Syncs, Queries, move, walk}
use Rattle.qs_graph.specs.Walk.{Within}
use Rattle.qs_syncset.specs.SoundSynced.{IsSoundSynced}
use Rattle.qs_chunk.specs.audit.Batch.{Batch, batch}
use Rattle.qs_client.specs.run.Holdings.{holding_at, holding, chunk_at, with_held, with_chunk}
use Rattle.qs_objects.specs.Traces.{AreEmptyAfter, TraceState, trace_at, noted_at}
use Rattle.qs_program.specs.audit.Limits.{most_handlers}
use Rattle.qs_client.specs.declared.run.stage.Stage.{Stage}
use Rattle.qs_client.specs.run.RunState.{RunState}
use Rattle.qs_client.specs.declared.run.run.BlockContext.{BlockContext}
use Rattle.qs_client.specs.declared.run.stage.Stage.TheVariants as stages

-- to another position
abbrev pub go_to : RunState → Spot → RunState
go_to s t = record s { position = t }

-- a command goes into an open chunk, where the object is not held; the client goes on unless the chunk is full then
abbrev pub fill : ℕ → Request → Spot → RunState → Batch Request → RunState × Bool
fill k r t s b =
    let more = batch (b.items ++ r ∷ []) b.capacity in
    let is_full = length more.items == b.capacity in
    let new : RunState = record {
      position = t;
      holdings = with_chunk s.holdings r.object (Some more);
      traces = noted_at s.traces k (command_event r);
      stage = if is_full then stages.Full r.object else s.stage;
    } in
    (new, not is_full)

abbrev pub call_by : ℕ → Request → Spot → RunState → Option HeldState → Option (Batch Request) → RunState × Bool
call_by k r t s (Some x) c = (s, false)
call_by k r t s None None = (s, false)
call_by k r t s None (Some b) = fill k r t s b

abbrev pub call : ℕ → Request → Spot → RunState → RunState × Bool
call k r t s = call_by k r t s (holding_at s.holdings r.object) (chunk_at s.holdings r.object)

-- a query is run by the client itself on the object that it holds
abbrev pub query_by : Ticket → Request → (ℤ → Spot) → RunState → Option HeldState → RunState × Bool
query_by u r t s None = (s, false)
query_by u r t s (Some x) =
    let o = run_one x u r in
    let new : RunState = record {
      position = t (value_of o.1);
      holdings = with_held s.holdings r.object (Some o.0);
      traces = noted_at s.traces u.index (event r o.1);
      stage = s.stage;
    } in
    (new, true)

abbrev pub query : Ticket → Request → (ℤ → Spot) → RunState → RunState × Bool
query u r t s = query_by u r t s (holding_at s.holdings r.object)

-- a synchronisation with an object that is held is skipped, where the client tests that
abbrev pub sync : Bool → ℕ → Spot → RunState → RunState × Bool
sync dynamic h t s = if dynamic && is_some (holding_at s.holdings h) then (go_to s t, true) else (s, false)

-- at the end of a block the handlers of its list are left in order
abbrev pub stage_at_end : List ℕ → Stage
stage_at_end [] = stages.Between
stage_at_end (h ∷ hs) = stages.Leaves 0

abbrev pub end_block : List ℕ → RunState → RunState × Bool
end_block reserved s = (record s { stage = stage_at_end reserved }, false)

abbrev pub step_by : BlockContext → List ℕ → Move → RunState → RunState × Bool
step_by context reserved Ends s = end_block reserved s
step_by context reserved (Goes t) s = (go_to s t, true)
step_by context reserved (Calls r t) s = call context.ticket.index r t s
step_by context reserved (Syncs h t) s = sync context.dynamic h t s
step_by context reserved (Queries r t) s = query context.ticket r t s

-- one quiet move, and whether another may follow
abbrev pub quiet_step : List GraphNode → BlockContext → List ℕ → RunState → RunState × Bool
quiet_step g context reserved s = step_by context reserved (move g s.position) s

-- each path, whatever the replies, makes at most n requests
abbrev pub MakesAtMost : ℕ → Synced → Type 0
MakesAtMost n (Done l) = Unit {0}
MakesAtMost n (Call r next) = (1 ≤ n) × MakesAtMost (n - 1) next
MakesAtMost n (Sync h next) = MakesAtMost n next
MakesAtMost n (Query r next) = (1 ≤ n) × ((v : ℤ) → MakesAtMost (n - 1) (next v))

-- an open chunk has the size of all chunks, and room
abbrev pub IsOpen : ℕ → Option (Batch Request) → Type 0
IsOpen size None = Unit {0}
IsOpen size (Some b) = (b.capacity ≡ size) × (length b.items < size)

-- what holds of a client within a block, at most n nodes from its end: the rest of the block may rely on these objects
-- as held, and this holds of the open chunk of each handler
pub record IsInBlock (g : List GraphNode) (k n : ℕ) (relied : ℕ → Bool) (IsChunk : ℕ → Option (Batch Request) → Type 0)
    (s : RunState) : Type 0 where
  pub few : n ≤ limit
  pub within : Within g n s.position
  pub counted : length g ≤ length s.position.counts
  pub sound : IsSoundSynced relied (walk g n s.position)
  pub fits : MakesAtMost (trace_at s.traces k).room (walk g n s.position)
  pub row : k < length s.traces
  pub last : AreEmptyAfter s.traces k
  pub held : length s.holdings.held ≡ most_handlers
  pub chunks : length s.holdings.chunks ≡ most_handlers
  pub opened : (h : ℕ) → IsChunk h (chunk_at s.holdings h)

-- a client that goes on by itself: each open chunk has room
abbrev pub IsRunning : List GraphNode → ℕ → ℕ → ℕ → RunState → Type 0
IsRunning g size k n s = IsInBlock g k n (holding s.holdings) (λ h c. IsOpen size c) s

-- an open chunk has the size of all chunks
abbrev pub IsSized : ℕ → Option (Batch Request) → Type 0
IsSized size None = Unit {0}
IsSized size (Some b) = b.capacity ≡ size

-- a move at which a client may have to send or to wait
abbrev pub IsLoud : Move → Type 0
IsLoud (Calls r t) = Unit {0}
IsLoud (Syncs h t) = Unit {0}
IsLoud m = ⊥

-- a client with a full chunk for handler h, or which has just given that chunk out: each other chunk has room
pub record IsFull (g : List GraphNode) (size k n h : ℕ) (s : RunState) : Type 0 where
  pub handler : h < most_handlers
  pub in_block : IsInBlock g k n (holding s.holdings) (λ j c. IsSized size c × ((h == j) ≡ false → IsOpen size c)) s

-- a client that waits for the object of handler h, on which the rest of the block may rely as held
pub record IsAwaiting (g : List GraphNode) (size k n h : ℕ) (s : RunState) : Type 0 where
  pub handler : h < most_handlers
  pub in_block : IsInBlock g k n (put (holding s.holdings) h true) (λ j c. IsOpen size c) s

-- a client at the end of its block
pub record IsOver (g : List GraphNode) (size : ℕ) (s : RunState) : Type 0 where
  pub held : length s.holdings.held ≡ most_handlers
  pub chunks : length s.holdings.chunks ≡ most_handlers
  pub opened : (h : ℕ) → IsOpen size (chunk_at s.holdings h)

-- a client that makes no quiet move at its stage, at most `most` nodes from its block's end
abbrev pub IsStopped : List GraphNode → List ℕ → ℕ → ℕ → ℕ → RunState → Stage → Type 0
IsStopped g reserved size k most s stages.Runs =
    (n : ℕ) × (n ≤ most) × IsRunning g size k n s × IsLoud (move g s.position)
IsStopped g reserved size k most s (stages.Full h) = (n : ℕ) × (n ≤ most) × IsFull g size k n h s
IsStopped g reserved size k most s (stages.Awaits h) = ⊥
IsStopped g reserved size k most s (stages.Leaves i) = IsOver g size s × (i < length reserved)
IsStopped g reserved size k most s stages.Between = IsOver g size s

-- the traces of the other blocks stay as they are
pub record KeepsRows (k : ℕ) (old new : List TraceState) : Type 0 where
  pub count : length new ≡ length old
  pub others : (j : ℕ) → (k == j) ≡ false → trace_at new j ≡ trace_at old j
