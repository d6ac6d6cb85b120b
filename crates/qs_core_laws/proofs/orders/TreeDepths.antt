-- A block's tree is no deeper than its walk has nodes: on no path there are more calls, synchronisations and queries.
-- How many turns are left of a block is bounded by this depth.
use Rattle.std.proofs.Common.{◌<◌, ◌≤◌, ℕ, zero, suc, ℤ, List, arith, rules}
use Rattle.qs_graph.specs.audit.Nodes.{GraphNode}
use Rattle.qs_graph.specs.audit.Synced.{Synced, Done, Call, Sync, Query}
use Rattle.qs_graph.specs.audit.Walk.{Move, Spot, move, tree_of_move, walk}

-- on no path there are more than n calls, synchronisations and queries
abbrev pub IsWithinDepth : ℕ → Synced → Type 0
IsWithinDepth n (Done l) = Unit {0}
IsWithinDepth n (Call r next) = (m : ℕ) × (m < n) × IsWithinDepth m next
IsWithinDepth n (Sync h next) = (m : ℕ) × (m < n) × IsWithinDepth m next
IsWithinDepth n (Query r next) = (m : ℕ) × (m < n) × ((v : ℤ) → IsWithinDepth m (next v))

deeper : (m n : ℕ) (tree : Synced) → m ≤ n → IsWithinDepth m tree → IsWithinDepth n tree
deeper m n (Done l) le d = tt
deeper m n _ le (k, less, d) = (k, omega (arith, le, less), d)

by_move : (g : List GraphNode) (n : ℕ) (s : Spot) → ((to : Spot) → IsWithinDepth n (walk g n to)) → (m : Move) → IsWithinDepth (suc n) (tree_of_move (walk g n) s.locals m)
by_move g n s ih m = search (rules, deeper)

pub walk_depth : (g : List GraphNode) (n : ℕ) (s : Spot) → IsWithinDepth n (walk g n s)
walk_depth g zero s = tt
walk_depth g (suc n) s = by_move g n s (walk_depth g n) (move g s)
