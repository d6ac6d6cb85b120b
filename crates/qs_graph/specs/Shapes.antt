-- How a proof tells places apart, and how a place's edges are kept.
use Rattle.std.specs.Prelude.{◌≡◌, ◌≤◌, ℕ, List, length, refl, slice_index_or, take}
use Rattle.std.specs.Coded.{Coded, code_by, coded×, coded_list, coded_ℕ, codes}
use Rattle.qs_graph.specs.declared.node.Node.{Node}
use Rattle.qs_graph.specs.audit.Nodes.{GraphNode}

-- so many of two targets are edges, and those behind them are 0: so a target is what the edge of its place is, and 0
-- where there is none
pub record AreEdges (count : ℕ) (targets : List ℕ) : Type 0 where
  pub within : (count ≤ 2) × (length targets ≡ 2)
  pub first : slice_index_or (take count targets) 0 0 ≡ slice_index_or targets 0 0
  pub second : slice_index_or (take count targets) 1 0 ≡ slice_index_or targets 1 0

pub node_code : Coded Node
node_code = hlevel codes

abbrev pub place_code : Coded GraphNode
place_code = code_by (Node × List ℕ) (coded× node_code (coded_list coded_ℕ))
    (λ p. (p.node, p.edges)) (λ p. record { node = p.0; edges = p.1 }) (λ _. refl)
