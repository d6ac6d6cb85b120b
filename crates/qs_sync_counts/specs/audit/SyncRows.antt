-- How many Syncs the blocks of a client have sent, for each object of their lists.
use Rattle.std.specs.Prelude.{ℕ, suc, ◌==◌, if◌then◌else◌, List, map, sum_by}
use Rattle.qs_sync_counts.specs.declared.sync_counts.SyncCount.{SyncCount}

abbrev pub sync_count : ℕ → ℕ → SyncCount
sync_count h n = record { object = h; count = n }

abbrev pub object_of : SyncCount → ℕ
object_of x = x.object

abbrev pub count_of : SyncCount → ℕ
count_of x = x.count

-- none yet, in a block with this list
abbrev pub no_syncs : List ℕ → List SyncCount
no_syncs hs = map (λ h. sync_count h 0) hs

-- a Sync more, where this is the object
abbrev pub one_more : ℕ → SyncCount → SyncCount
one_more h x = sync_count x.object (if x.object == h then suc x.count else x.count)

-- a Sync more for object h
abbrev pub with_sync : ℕ → List SyncCount → List SyncCount
with_sync h xs = map (one_more h) xs

-- how many for all objects of the list
abbrev pub syncs_of : List SyncCount → ℕ
syncs_of xs = sum_by count_of xs

-- none yet, in all blocks with these lists
abbrev pub fresh_rows : List (List ℕ) → List (List SyncCount)
fresh_rows lists = map no_syncs lists
