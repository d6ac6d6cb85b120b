-- Beside what the headline reaches (`audit/Walk.antt`): what else contracts and proofs use.
use Rattle.std.specs.Prelude.{◌<◌, ℕ, zero, suc, ℤ, List, length}
use Rattle.qs_graph.specs.audit.Nodes.{GraphNode}
use Rattle.qs_graph.specs.audit.Walk.{Spot, Move, Ends, Goes, Calls, Syncs, Queries, move}

-- a property of the spots that a move leads to
abbrev pub EachNext : (Spot → Type 0) → Move → Type 0
EachNext P Ends = Unit {0}
EachNext P (Goes s) = P s
EachNext P (Calls r s) = P s
EachNext P (Syncs h s) = P s
EachNext P (Queries r s) = (v : ℤ) → P (s v)

-- each walk from here, whatever the replies, stays in the graph and is at Exit within n nodes
abbrev pub Within : List GraphNode → ℕ → Spot → Type 0
Within g zero s = ⊥
Within g (suc n) s = (s.node < length g) × EachNext (Within g n) (move g s)

-- how many silent moves there are before the next call, synchronisation, query or end, within n nodes
abbrev pub silent_by : (Spot → ℕ) → Move → ℕ
silent_by go (Goes s) = suc (go s)
silent_by go _ = 0

abbrev pub silent : List GraphNode → ℕ → Spot → ℕ
silent g zero s = 0
silent g (suc n) s = silent_by (silent g n) (move g s)
