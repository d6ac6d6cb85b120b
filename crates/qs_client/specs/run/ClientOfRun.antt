-- The client that a run's data stand for: its stage and the rest of its block, its objects and its chunks, as
-- `Client.antt` has them; and what it means that a run has settled.
use Rattle.std.specs.Prelude.{◌≡◌, ℕ, suc, List, ◌++◌, length, drop, Option, Some, None, slice_index_or}
use Rattle.qs_objects.specs.declared.held.Event.{Event}
use Rattle.qs_objects.specs.declared.held.Ticket.{Ticket}
use Rattle.qs_objects.specs.declared.Request.{Request}
use Rattle.qs_program.specs.audit.Values.{Locals}
use Rattle.qs_graph.specs.audit.Nodes.{GraphNode}
use Rattle.qs_graph.specs.audit.Steps.{limit}
use Rattle.qs_graph.specs.audit.Synced.{Synced}
use Rattle.qs_graph.specs.audit.Walk.{walk}
use Rattle.qs_chunk.specs.audit.Batch.{Batch}
use Rattle.qs_client.specs.audit.rules.Client.{Client, Settings, Settlement, ClientStage, settle, between, runs, full, awaits, leaves}
use Rattle.qs_client.specs.run.Running.{IsStopped, KeepsRows}
use Rattle.qs_client.specs.run.Holdings.{HoldingsState, holding_at, chunk_at}
use Rattle.qs_objects.specs.Traces.{trace_at}
use Rattle.qs_client.specs.declared.run.stage.Stage.{Stage}
use Rattle.qs_client.specs.run.RunState.{RunState}
use Rattle.qs_client.specs.declared.run.stage.Stage.TheVariants as stages

-- the requests in a chunk, where there is one
abbrev pub items_of : Option (Batch Request) → Option (List Request)
items_of None = None
items_of (Some b) = Some b.items

-- a client with these holdings, that has begun so many blocks and is at this stage
abbrev pub client_with : ℕ → ClientStage → HoldingsState → Client
client_with begun stage s =
    record { begun = begun; stage = stage; held = holding_at s; chunk = λ h. items_of (chunk_at s h) }

-- the stage of a client in a block that reserves this list and whose rest is this
abbrev pub stage_by : Stage → List ℕ → Synced → Locals → ClientStage
stage_by stages.Between reserved rest l = between l
stage_by stages.Runs reserved rest l = runs rest
stage_by (stages.Full h) reserved rest l = full h rest
stage_by (stages.Awaits h) reserved rest l = awaits h rest
stage_by (stages.Leaves i) reserved rest l = leaves (slice_index_or reserved i 0) (drop (suc i) reserved) l

abbrev pub stage_of : List GraphNode → List ℕ → RunState → ClientStage
stage_of g reserved s = stage_by s.stage reserved (walk g limit s.position) s.position.locals

abbrev pub client_of_run : List GraphNode → List ℕ → ℕ → RunState → Client
client_of_run g reserved begun s = client_with begun (stage_of g reserved s) s.holdings

-- how far a client has come: the client, and the trace of its block
pub record ClientProgress : Type 0 where
  pub client : Client
  pub trace : List Event

abbrev pub progress_after : List Event → Settlement → ClientProgress
progress_after before s = record { client = s.client; trace = before ++ s.events }

-- how far it comes by all quiet work up to its next act, where this tree is the rest of its block
abbrev pub progress_through : Settings → Ticket → List ℕ → ℕ → ClientStage → Synced → RunState → ClientProgress
progress_through settings ticket reserved begun p tree s =
    progress_after (trace_at s.traces ticket.index).events
    (settle settings ticket reserved tree (client_with begun p s.holdings))

abbrev pub progress_at : List GraphNode → List ℕ → ℕ → ℕ → RunState → ClientProgress
progress_at g reserved begun k s =
    record { client = client_of_run g reserved begun s; trace = (trace_at s.traces k).events }

-- from the old state, n nodes from the block's end at most, a client has come to its next act: it makes no quiet move,
-- and it has done exactly what `settle` says
pub record HasSettled (g : List GraphNode) (settings : Settings) (ticket : Ticket) (reserved : List ℕ) (begun : ℕ)
    (p : ClientStage) (n : ℕ) (old new : RunState) : Type 0 where
  pub stopped : IsStopped g reserved settings.size ticket.index n new new.stage
  pub rows : KeepsRows ticket.index old.traces new.traces
  pub counts : length new.position.counts ≡ length old.position.counts
  pub same : progress_through settings ticket reserved begun p (walk g n old.position) old
      ≡ progress_at g reserved begun ticket.index new
