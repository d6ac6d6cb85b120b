-- The invariant of a mind: what holds of its data whenever it is whole.
use Rattle.std.specs.Prelude.{◌≡◌, ◌<◌, ◌≤◌, ℕ, suc, ◌+◌, ◌*◌, [], length, slice_index_or}
use Rattle.qs_graph.specs.audit.Steps.{limit}
use Rattle.qs_sync_counts.specs.SyncRows.{AreFew}
use Rattle.qs_syncset.specs.audit.Codes.{code_at}
use Rattle.qs_syncset.specs.Codes.{IsCode}
use Rattle.qs_client.specs.audit.run.BlockSizes.{longest}
use Rattle.qs_client.specs.run.BlockSizes.{room_for}
use Rattle.qs_client.specs.run.BetweenActs.{IsOutgoingAt, IsStanding}
use Rattle.qs_objects.specs.Traces.{empty_trace, trace_at}
use Rattle.qs_chunk.specs.Limits.{largest_chunk}
use Rattle.qs_client.specs.declared.rules.outgoing.Outgoing.TheVariants as outgoings
use Rattle.qs_client.specs.declared.run.stage.Stage.TheVariants as stages
use Rattle.qs_client.specs.MindState.{MindState, block_of}

pub record IsSoundMind (m : MindState) : Type 0 where
  pub code : IsCode m.code
  pub size : (1 ≤ m.size) × (m.size ≤ largest_chunk)
  pub blocks : length m.entries ≤ length m.code.blocks
  pub rows : length m.run.traces ≡ length m.code.blocks
  pub counts : length m.run.position.counts ≡ longest m.code.blocks
  -- the ticket is that of the block that was begun last
  pub ticket : 0 < length m.entries → m.ticket.index + 1 ≡ length m.entries
  pub first : length m.entries ≡ 0 → (m.run.stage ≡ stages.Between) × (m.outgoing ≡ outgoings.Nothing)
  -- a Sync is followed by a node, so there are no more of them than nodes that were passed
  pub left : ℕ
  pub few : m.syncs + left ≤ length m.entries * limit
  -- each block has its counts, none of which is more than all Syncs
  pub tallies : length m.counts.rows ≡ length m.code.blocks
  pub few_each : (k : ℕ) → AreFew (suc m.syncs) (slice_index_or m.counts.rows k [])
  pub standing : IsStanding (block_of m) m.size m.ticket.index left m.run m.run.stage
  pub gone : IsOutgoingAt (block_of m).graph m.outgoing m.run m.run.stage
  pub later : (k : ℕ) → length m.entries ≤ k → k < length m.code.blocks
      → trace_at m.run.traces k ≡ empty_trace (room_for (code_at m.code k))
