-- Edges, and the paths that they make.
use Rattle.std.specs.Prelude.{◌≡◌, ◌⊎◌, ℕ, List, [], ◌∷◌}
use Rattle.qs_graph.specs.audit.Nodes.{GraphNode, place_at}

abbrev pub IsAmong : ℕ → List ℕ → Type 0
IsAmong n [] = ⊥
IsAmong n (m ∷ ms) = (n ≡ m) ⊎ IsAmong n ms

-- there is an edge from m to n
abbrev pub HasEdge : List GraphNode → ℕ → ℕ → Type 0
HasEdge g m n = IsAmong n (place_at g m).edges

-- a path from Entry to n; `before` is its nodes before n, the latest first
abbrev pub IsPath : List GraphNode → List ℕ → ℕ → Type 0
IsPath g [] n = n ≡ 0
IsPath g (m ∷ before) n = HasEdge g m n × IsPath g before m
