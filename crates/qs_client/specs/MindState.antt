-- The data that a mind keeps, the model that they stand for, and what holds of every mind.
use Rattle.std.specs.Prelude.{◌≡◌, ◌<◌, ◌≤◌, ℕ, ◌+◌, ◌*◌, List, length, true}
use Rattle.qs_objects.specs.declared.held.Ticket.{Ticket}
use Rattle.qs_program.specs.audit.Values.{Locals}
use Rattle.qs_graph.specs.audit.Steps.{limit}
use Rattle.qs_sync_counts.specs.SyncRows.{CountsState}
use Rattle.qs_syncset.specs.audit.Codes.{BlockCode, ClientCode, code_at}
use Rattle.qs_syncset.specs.Codes.{IsCode}
use Rattle.qs_client.specs.audit.rules.Client.{Client, Settings}
use Rattle.qs_client.specs.run.ClientOfRun.{client_of_run}
use Rattle.qs_objects.specs.Traces.{events_of}
use Rattle.qs_chunk.specs.Limits.{largest_chunk}
use Rattle.qs_client.specs.run.RunState.{RunState}
use Rattle.qs_client.specs.declared.rules.outgoing.Outgoing.{Outgoing}
use Rattle.qs_client.specs.audit.ClientModel.{ClientModel, is_between}

-- the code and the chunks' size; the ticket of the block that was begun last, and where the client stands in it; the
-- variables at entry of the blocks that were begun; the Syncs that were sent, all and for each block and each object of
-- its list; and what the last act gave out
pub record MindState : Type 0 where
  pub code : ClientCode
  pub size : ℕ
  pub ticket : Ticket
  pub run : RunState
  pub entries : List Locals
  pub syncs : ℕ
  pub counts : CountsState
  pub outgoing : Outgoing

-- the code of the block that was begun last
abbrev pub block_of : MindState → BlockCode
block_of m = code_at m.code m.ticket.index

abbrev pub settings_in : MindState → Settings
settings_in m = record { dynamic = m.code.dynamic; size = m.size }

-- the client in its block
abbrev pub client_in : MindState → Client
client_in m = client_of_run (block_of m).graph (block_of m).reserved (length m.entries) m.run

-- the model that the data stand for
unfoldable pub mind_of : MindState → ClientModel
mind_of m = record {
  code = m.code;
  size = m.size;
  ticket = m.ticket;
  client = client_in m;
  entries = m.entries;
  traces = events_of m.run.traces;
  syncs = m.syncs;
  counts = m.counts.rows;
  outgoing = m.outgoing;
}

-- what holds of every mind
pub record IsMind (m : ClientModel) : Type 0 where
  pub code : IsCode m.code
  pub size : (1 ≤ m.size) × (m.size ≤ largest_chunk)
  pub entries : length m.entries ≡ m.client.begun
  pub blocks : m.client.begun ≤ length m.code.blocks
  pub traces : length m.traces ≡ length m.code.blocks
  pub counts : length m.counts ≡ length m.code.blocks
  pub ticket : 0 < m.client.begun → m.ticket.index + 1 ≡ m.client.begun
  pub syncs : m.syncs ≤ m.client.begun * limit
  -- before its first block it stands between blocks
  pub first : m.client.begun ≡ 0 → is_between m.client.stage ≡ true
