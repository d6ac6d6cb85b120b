-- A graph with some of its synchronisations removed, and what its walks do.
use Rattle.std.specs.Prelude.{◌≡◌, ◌⊎◌, ℕ, List, length}
use Rattle.qs_graph.specs.audit.Nodes.{GraphNode, place_at, made_local}
use Rattle.qs_graph.specs.Nodes.{IsSync}
use Rattle.qs_graph.specs.Synced.{without_syncs}
use Rattle.qs_graph.specs.audit.Walk.{Spot, walk}
use Rattle.qs_graph.specs.Walk.{Within}

-- the same place, or a synchronisation's that does nothing now
abbrev pub IsKeptOrRemoved : GraphNode → GraphNode → Type 0
IsKeptOrRemoved p q = (q ≡ p) ⊎ (IsSync p.node × (q ≡ made_local p))

pub record IsRemoval (g h : List GraphNode) : Type 0 where
  pub long : length h ≡ length g
  pub places : (n : ℕ) → IsKeptOrRemoved (place_at g n) (place_at h n)

-- a walk stays within as many nodes, and says the same but for synchronisations
pub record KeepsWalk (g h : List GraphNode) (n : ℕ) (s : Spot) : Type 0 where
  pub ends : Within h n s
  pub says : without_syncs (walk h n s) ≡ without_syncs (walk g n s)

abbrev pub RemovalsKeepWalks : Type 0
RemovalsKeepWalks = (g h : List GraphNode) (n : ℕ) (s : Spot) → IsRemoval g h → Within g n s → KeepsWalk g h n s
