use Rattle.std.proofs.Common.{◌≡◌, ◌<◌, ℕ, drop, nat_lt, slice_index_or, take}
use Rattle.qs_standings.proofs.Common.{block_reserves, client_at, list_any, most_objects}
use Rattle.qs_standings.proofs.going.going.last_of.Given as goal

abbrev pub invariant-loop-index : goal.invariant-loop-index
invariant-loop-index l =
    (k h : ℕ) → h < most_objects → list_any (block_reserves h) (drop k (take l.index (client_at l.program l.client).blocks)) ≡ nat_lt k (slice_index_or l.last h 0)
