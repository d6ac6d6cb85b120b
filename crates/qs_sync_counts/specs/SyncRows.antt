-- Beside what the headline reaches (`audit/SyncRows.antt`): what else contracts and proofs use.
use Rattle.std.specs.Prelude.{◌≡◌, ◌<◌, ℕ, zero, suc, ◌==◌, if◌then◌else◌, List, [], ◌∷◌, map, length, sum_by}
use Rattle.std.specs.List.{AllByRecursion}
use Rattle.qs_objects.specs.Rows.{RowsState}
use Rattle.qs_sync_counts.specs.declared.sync_counts.SyncCount.{SyncCount}
use Rattle.qs_sync_counts.specs.audit.SyncRows.{sync_count, count_of, no_syncs}

-- how many were sent for object h
abbrev pub syncs_for : List SyncCount → ℕ → ℕ
syncs_for xs h = sum_by (λ (x : SyncCount). if x.object == h then x.count else 0) xs

-- the counts of all blocks, without their objects
abbrev pub all_counts : List (List SyncCount) → List (List ℕ)
all_counts rows = map (map count_of) rows

-- the greatest count that a row has room for
abbrev pub greatest_count : ℕ
greatest_count = 4294967295

-- each count is below this
abbrev pub AreFew : ℕ → List SyncCount → Type 0
AreFew n xs = AllByRecursion (λ (x : SyncCount). x.count < n) xs

-- the counts of all blocks, and for how many more objects there is room
pub record CountsState : Type 0 where
  pub rows : List (List SyncCount)
  pub room : ℕ

abbrev pub counts_state : List (List SyncCount) → ℕ → CountsState
counts_state rows room = record { rows = rows; room = room }

-- objects with their counts, in a block and in all
abbrev pub pair_counts : List ℕ → List ℕ → List SyncCount
pair_counts (o ∷ os) (c ∷ cs) = sync_count o c ∷ pair_counts os cs
pair_counts _ _ = []

abbrev pub with_counts : List (List ℕ) → List (List ℕ) → List (List SyncCount)
with_counts (os ∷ oss) (cs ∷ css) = pair_counts os cs ∷ with_counts oss css
with_counts _ _ = []

-- each object has its count
abbrev pub HaveCounts : List (List ℕ) → List (List ℕ) → Type 0
HaveCounts [] [] = Unit {0}
HaveCounts (os ∷ oss) (cs ∷ css) = (length cs ≡ length os) × HaveCounts oss css
HaveCounts _ _ = ⊥

pub record AreAlike (objects counts : RowsState ℕ) : Type 0 where
  pub each : HaveCounts objects.rows counts.rows
  pub room : counts.room ≡ objects.room

-- the counts of the first n blocks with these lists, where later blocks have no objects yet
abbrev pub begun_rows : ℕ → List (List ℕ) → List (List SyncCount)
begun_rows n [] = []
begun_rows zero (hs ∷ lists) = [] ∷ begun_rows zero lists
begun_rows (suc n) (hs ∷ lists) = no_syncs hs ∷ begun_rows n lists
