-- How many synchronisations the blocks of an order send in each mode, for each object of their lists; and the exact
-- numbers, by what the blocks do one after another.
use Rattle.std.specs.Prelude.{◌≡◌, ◌<◌, ◌≤◌, ℕ, Bool, true, List, [], map, length, slice_index_or, sum_by}
use Rattle.qs_objects.specs.declared.held.Ticket.{Ticket}
use Rattle.qs_program.specs.audit.Program.{ProgramShape, text_of}
use Rattle.qs_meaning.specs.Serial.{SerialBlock, serial}
use Rattle.qs_graph.specs.audit.Names.{graph_of}
use Rattle.qs_syncset.specs.audit.Modes.{is_dynamic, is_static}
use Rattle.qs_syncset.specs.SyncCounts.{AreOrdered, Decides, HasTest, kept, queries, runs}
use Rattle.qs_syncset.specs.declared.mode.Mode.{Mode}
use Rattle.qs_syncset.specs.declared.mode.Mode.TheVariants.{Plain, Dynamic, Static, Both}
use Rattle.qs_sync_counts.specs.audit.SyncRows.{count_of, object_of, syncs_of}
use Rattle.qs_sync_counts.specs.SyncRows.{syncs_for}
use Rattle.qs_sync_counts.specs.declared.sync_counts.SyncCount.{SyncCount}
use Rattle.qs_played.specs.audit.Played.{Played, ticket}
use Rattle.qs_played.specs.Isolation.{no_block}
use Rattle.qs_played.specs.SyncSums.{AreAll, counts_at}
use Rattle.qs_report.specs.declared.sync_table.ModeCounts.{ModeCounts}

-- the blocks of an order, and for each of them in each mode how many are sent for each object of its list
pub record TableShape : Type 0 where
  pub order : List Ticket
  pub none : List (List SyncCount)
  pub dynamic : List (List SyncCount)
  pub static : List (List SyncCount)
  pub both : List (List SyncCount)

-- for how many objects those of the block at a place are counted
abbrev pub width_at : TableShape → ℕ → ℕ
width_at t i = length (slice_index_or t.none i [])

-- the object at a place of its list
abbrev pub object_in : TableShape → (i j : ℕ) → ℕ
object_in t i j = slice_index_or (map object_of (slice_index_or t.none i [])) j 0

-- how many are sent for it
abbrev pub count_in : List (List SyncCount) → (i j : ℕ) → ℕ
count_in counts i j = slice_index_or (map count_of (slice_index_or counts i [])) j 0

abbrev pub counts_in : TableShape → (i j : ℕ) → ModeCounts
counts_in t i j = record {
  none = count_in t.none i j;
  dynamic = count_in t.dynamic i j;
  fixed = count_in t.static i j;
  both = count_in t.both i j;
}

-- how many are sent in all
abbrev pub sums_of : TableShape → ModeCounts
sums_of t = record {
  none = sum_by syncs_of t.none;
  dynamic = sum_by syncs_of t.dynamic;
  fixed = sum_by syncs_of t.static;
  both = sum_by syncs_of t.both;
}

-- a run of the same order, whose blocks have as many counts, and whose synchronisations are all of those
pub record IsBeside (r s : Played) : Type 0 where
  pub order : s.order ≡ r.order
  pub long : (i : ℕ) → i < length r.order → length (counts_at s i) ≡ length (counts_at r i)
  pub all : AreAll s

-- the table of the runs of one order in the four modes
abbrev pub table_of : (none dynamic static both : Played) → TableShape
table_of none dynamic static both = record {
  order = none.order;
  none = none.sync_counts;
  dynamic = dynamic.sync_counts;
  static = static.sync_counts;
  both = both.sync_counts;
}

pub record AreOfOneOrder (none dynamic static both : Played) : Type 0 where
  pub all : AreAll none
  pub second : IsBeside none dynamic
  pub third : IsBeside none static
  pub fourth : IsBeside none both

-- In a mode, the numbers of a ticket's block, for each object of its list, by the requests and replies that it has at its
-- place of the serial run: without coalescing one for each query, with the dynamic test one for each query that comes
-- first on its object or directly after a command there, and with static removal alone one for each that comes to a
-- synchronisation at which its object is not held, by any test of that; in the static modes there is one. These numbers
-- are in order, and the first of them is the greatest.
pub record IsExactAt (p : ProgramShape) (mode : Mode) (t : Ticket) (b : SerialBlock) (xs : List SyncCount) : Type 0 where
  pub listed : map object_of xs ≡ (text_of p t).reserved
  pub plain : mode ≡ Plain → (h : ℕ) → syncs_for xs h ≡ queries h b.trace
  pub dynamic : is_dynamic mode ≡ true → (h : ℕ) → syncs_for xs h ≡ runs h b.trace
  pub static : mode ≡ Static → (held : ℕ → Bool) → Decides (graph_of p t.client t.index) held
      → (h : ℕ) → syncs_for xs h ≡ kept (text_of p t).body held b.entry h b.trace
  pub tested : is_static mode ≡ true → HasTest (graph_of p t.client t.index)
  pub ordered : (held : ℕ → Bool) → Decides (graph_of p t.client t.index) held
      → (h : ℕ) → AreOrdered (text_of p t).body b.entry b.trace h held
  pub few : (h : ℕ) → runs h b.trace ≤ queries h b.trace

-- for each block of an order
pub record AreExactIn (p : ProgramShape) (mode : Mode) (order : List Ticket) (counts : List (List SyncCount)) : Type 0 where
  pub long : length counts ≡ length order
  pub each : (i : ℕ) → i < length order
      → IsExactAt p mode (slice_index_or order i (ticket 0 0)) (slice_index_or (serial p order).places i no_block)
      (slice_index_or counts i [])

-- the exact numbers of the blocks of an order, in each mode
pub record IsExactTable (p : ProgramShape) (order : List Ticket) (t : TableShape) : Type 0 where
  pub same : t.order ≡ order
  pub none : AreExactIn p Plain order t.none
  pub dynamic : AreExactIn p Dynamic order t.dynamic
  pub static : AreExactIn p Static order t.static
  pub both : AreExactIn p Both order t.both
