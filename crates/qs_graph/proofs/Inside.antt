-- Each edge of a graph leads to a node of the graph, so a path never leaves it. The computation of the held sets uses
-- this for its indexes. It goes by induction on the path.
use Rattle.std.proofs.Common.{◌≡◌, ℕ, ◌<◌, inl, inr, List, [], ◌∷◌, length, arith, subst, sym}
use Rattle.std.specs.List.{AllByRecursion}
use Rattle.qs_graph.specs.declared.node.Node.TheVariants.{Entry}
use Rattle.qs_graph.specs.audit.Nodes.{GraphNode, place_at, exit}
use Rattle.qs_graph.specs.audit.Paths.{IsAmong, HasEdge}
use Rattle.qs_graph.specs.WellFormed.{IsGraphNode, IsGraph}
use Rattle.qs_graph.specs.WalkLaws.{PathsStayInside}
use Rattle.qs_graph.proofs.Ranges.{all_at}

among_below : (n k : ℕ) (es : List ℕ) → AllByRecursion (λ m. m < k) es → IsAmong n es → n < k
among_below n k [] each h = absurd h
among_below n k (e ∷ es) each (inl same) = subst (λ m. m < k) (sym same) each.0
among_below n k (e ∷ es) each (inr later) = among_below n k es each.1 later

pub edge_inside : (g : List GraphNode) (m n : ℕ) → IsGraph g → HasEdge g m n → n < length g
edge_inside g m n ok edge =
    all_at (IsGraphNode (length g)) (λ (p : GraphNode). IsAmong n p.edges → n < length g) g m exit ok.places
    (λ p w. among_below n (length g) p.edges w.edges) (λ h. absurd h) edge

some_node : (g : List GraphNode) → (place_at g 0).node ≡ Entry → 0 < length g
some_node [] e = cc
some_node (p ∷ ps) e = omega arith

pub paths_stay_inside : PathsStayInside
paths_stay_inside g [] n ok path = let some : 0 < length g = some_node g ok.entry in omega arith
paths_stay_inside g (m ∷ before) n ok path = edge_inside g m n ok path.0
