-- How many Syncs each reservation has sent for each object.
use Rattle.std.specs.Prelude.{◌≡◌, ◌<◌, ◌≤◌, ◌⊎◌, ℕ, ◌+◌, Bool, true, false, ◌==◌, if◌then◌else◌, List, [], map, slice_index_or, sum_by, length}
use Rattle.qs_program.specs.audit.Program.{ProgramShape, text_of}
use Rattle.qs_program.specs.audit.Statements.{Statements}
use Rattle.qs_graph.specs.audit.Names.{graph_of}
use Rattle.qs_graph.specs.audit.Nodes.{ControlGraph}
use Rattle.qs_syncset.specs.declared.mode.Mode.{Mode}
use Rattle.qs_syncset.specs.declared.mode.Mode.TheVariants.{Plain, Static}
use Rattle.qs_syncset.specs.audit.Modes.{is_dynamic, is_static}
use Rattle.qs_sync_counts.specs.audit.SyncRows.{object_of, syncs_of}
use Rattle.qs_sync_counts.specs.SyncRows.{syncs_for}
use Rattle.qs_sync_counts.specs.declared.sync_counts.SyncCount.{SyncCount}
use Rattle.qs_syncset.specs.SyncCounts.{AreOrdered, Decides, HasTest, kept, queries, runs}
use Rattle.qs_played.specs.audit.Isolation.{ended_of, ticket_at, trace_of}
use Rattle.qs_played.specs.Isolation.{entry_of}
use Rattle.qs_played.specs.audit.Played.{Played}

-- for each object exactly so many, or, in a block that has not ended, one more for one object
abbrev pub AreSent : (ended : Bool) → (sent counts : ℕ → ℕ) → Type 0
AreSent ended sent counts =
    ((h : ℕ) → sent h ≡ counts h) ⊎ ((ended ≡ false) × (g : ℕ)
    × ((h : ℕ) → sent h ≡ (if g == h then 1 else 0) + counts h))

-- how many Syncs the i-th reservation has sent, for each object of its block's list, and for object h
abbrev pub counts_at : Played → ℕ → List SyncCount
counts_at r i = slice_index_or r.sync_counts i []

abbrev pub syncs_at : Played → ℕ → ℕ → ℕ
syncs_at r i h = syncs_for (counts_at r i) h

-- what the reservations have sent makes up all Syncs
abbrev pub AreAll : Played → Type 0
AreAll r = r.syncs ≡ sum_by syncs_of r.sync_counts

-- a count for each object of the block's list, in order
abbrev pub AreListed : ProgramShape → Played → ℕ → Type 0
AreListed p r i = map object_of (counts_at r i) ≡ (text_of p (ticket_at r i)).reserved

-- the statements of the i-th reservation
abbrev pub body_of : ProgramShape → Played → ℕ → Statements
body_of p r i = (text_of p (ticket_at r i)).body

-- the graph of its block as it is built, in the block's own names
abbrev pub built_of : ProgramShape → Played → ℕ → ControlGraph
built_of p r i = graph_of p (ticket_at r i).client (ticket_at r i).index

-- The i-th reservation in a mode of the optimised machine, by its trace so far: without coalescing it has sent a Sync
-- for each query, with the dynamic test for each query that comes first on its object or directly after a command
-- there, and with static removal alone for each that comes to a synchronisation at which its object is not held, by any
-- test of that; in the static modes there is one. These numbers are in order, and the runs are never more than the
-- queries.
pub record IsCounted (p : ProgramShape) (mode : Mode) (r : Played) (i : ℕ) : Type 0 where
  pub listed : AreListed p r i
  pub plain : mode ≡ Plain → AreSent (ended_of r i) (syncs_at r i) (λ h. queries h (trace_of r i))
  pub dynamic : is_dynamic mode ≡ true → AreSent (ended_of r i) (syncs_at r i) (λ h. runs h (trace_of r i))
  pub static : mode ≡ Static → (held : ℕ → Bool) → Decides (built_of p r i) held
      → AreSent (ended_of r i) (syncs_at r i) (λ h. kept (body_of p r i) held (entry_of r i) h (trace_of r i))
  pub tested : is_static mode ≡ true → HasTest (built_of p r i)
  pub ordered : (held : ℕ → Bool) → Decides (built_of p r i) held
      → (h : ℕ) → AreOrdered (body_of p r i) (entry_of r i) (trace_of r i) h held
  pub few : (h : ℕ) → runs h (trace_of r i) ≤ queries h (trace_of r i)

pub record SyncSums (p : ProgramShape) (mode : Mode) (r : Played) : Type 0 where
  pub all : AreAll r
  pub each : (i : ℕ) → i < length r.order → IsCounted p mode r i

-- They do not unfold by themselves: a proof that wants one of their parts says so, and the others are spared them.
unfoldable pub AreSyncsCounted : ProgramShape → Mode → Played → Type 0
AreSyncsCounted p mode r = SyncSums p mode r
