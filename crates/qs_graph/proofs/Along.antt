-- Each move of a walk goes along an edge of its graph, so the nodes that the walk has passed form a path. The proof
-- that coalescing is right needs this, because it knows what is held only along paths. It goes by cases on the node at
-- which the walk stands, and then puts that node in front of the path.
use Rattle.std.proofs.Common.{◌≡◌, ℕ, zero, suc, ◌<◌, Bool, true, false, if◌then◌else◌, inl, inr, List, [], ◌∷◌, length, slice_index_or, refl, arith}
use Rattle.qs_graph.proofs.Common.{AllByRecursion-get_or, test_value}
use Rattle.qs_graph.specs.declared.node.Node.{Node}
use Rattle.qs_graph.specs.declared.node.Node.TheVariants.{Branch, Query, Exit, Entry, Local, Sync, Call}
use Rattle.qs_graph.specs.declared.node.Choice.TheVariants.{If, Repeat}
use Rattle.qs_graph.specs.audit.Nodes.{GraphNode, place_at, exit}
use Rattle.qs_graph.specs.audit.Paths.{IsAmong, HasEdge, IsPath}
use Rattle.qs_graph.specs.WellFormed.{edge_count, IsGraphNode, IsGraph}
use Rattle.qs_graph.specs.audit.Walk.{Spot, move, move_by, after_repeat}
use Rattle.qs_graph.specs.Walk.{EachNext}
use Rattle.qs_graph.specs.WalkLaws.{WalksGoAlongPaths}
use Rattle.qs_graph.proofs.Saying.{next_up}
use Rattle.qs_graph.specs.declared.node.Action.TheVariants.{Assign, SetCount, Nothing}

first_among : (es : List ℕ) → 0 < length es → IsAmong (slice_index_or es 0 0) es
first_among [] h = absurd (omega arith)
first_among (e ∷ es) h = inl refl

second_among : (es : List ℕ) → 1 < length es → IsAmong (slice_index_or es 1 0) es
second_among [] h = absurd (omega arith)
second_among (e ∷ es) h = inr (first_among es (omega arith))

if_among : (b : Bool) (n m : ℕ) (es : List ℕ) → IsAmong n es → IsAmong m es → IsAmong (if b then n else m) es
if_among true n m es h w = h
if_among false n m es h w = w

turned_among : (k : ℕ) (s : Spot) (n m : ℕ) (es : List ℕ) → IsAmong n es → IsAmong m es → IsAmong (after_repeat k s n m).node es
turned_among zero s n m es h w = w
turned_among (suc k) s n m es h w = h

along : (v : Node) (es : List ℕ) (s : Spot) → length es ≡ edge_count v
    → EachNext (λ t. IsAmong t.node es) (move_by v s (slice_index_or es 0 0) (slice_index_or es 1 0))
along Entry es s e = first_among es (omega arith)
along (Local (Assign x v)) es s e = first_among es (omega arith)
along (Local (SetCount k)) es s e = first_among es (omega arith)
along (Local Nothing) es s e = first_among es (omega arith)
along (Branch (If t)) es s e =
    if_among (test_value s.locals t) _ _ es (first_among es (omega arith)) (second_among es (omega arith))
along (Branch Repeat) es s e = turned_among _ s _ _ es (first_among es (omega arith)) (second_among es (omega arith))
along (Sync h) es s e = first_among es (omega arith)
along (Query x c) es s e = λ v. first_among es (omega arith)
along (Call c) es s e = first_among es (omega arith)
along Exit es s e = tt

-- each move goes along an edge
pub goes_along : (g : List GraphNode) (s : Spot) → IsGraph g → s.node < length g → EachNext (λ t. HasEdge g s.node t.node) (move g s)
unfolding move
goes_along g s ok inside =
    let here : IsGraphNode (length g) (place_at g s.node) = AllByRecursion-get_or (IsGraphNode (length g)) g s.node exit ok.places inside in
    along (place_at g s.node).node (place_at g s.node).edges s here.count

pub walks_go_along_paths : WalksGoAlongPaths
walks_go_along_paths g s before ok inside path =
    next_up (λ t. HasEdge g s.node t.node) (λ t. IsPath g (s.node ∷ before) t.node) (λ t e. (e, path)) (move g s) (goes_along g s ok inside)
