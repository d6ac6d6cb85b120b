-- When some synchronisations of a graph are removed, a walk stays within as many nodes and says the same but for these
-- synchronisations. The law `RemovalsKeepWalks` is proved here. It goes by induction on the nodes that the walk may
-- take; at a removed synchronisation the walk goes on silently to the same spot.
use Rattle.std.proofs.Common.{◌≡◌, inl, inr, ℕ, zero, suc, ◌<◌, List, length, refl, sym, ap, subst, ◌∙◌, arith}
use Rattle.qs_graph.proofs.Common.{fun_ext, Locals}
use Rattle.qs_meaning.specs.audit.Interaction as tree
use Rattle.qs_graph.specs.declared.node.Node.{Node}
use Rattle.qs_graph.specs.declared.node.Node.TheVariants.{Local, Sync}
use Rattle.qs_graph.specs.declared.node.Action.TheVariants.{Nothing}
use Rattle.qs_graph.specs.audit.Nodes.{GraphNode, place_at, first_target, second_target}
use Rattle.qs_graph.specs.Nodes.{IsSync}
use Rattle.qs_graph.specs.audit.Synced.{Synced}
use Rattle.qs_graph.specs.Synced.{without_syncs}
use Rattle.qs_graph.specs.audit.Walk.{Spot, Move, Ends, Goes, Calls, Syncs, Queries, move, move_at, move_by, tree_of_move, walk}
use Rattle.qs_graph.specs.Walk.{EachNext, Within}
use Rattle.qs_graph.specs.Removal.{IsKeptOrRemoved, IsRemoval, RemovalsKeepWalks}
use Rattle.qs_graph.proofs.Saying.{next_up}

-- at a synchronisation and where it was
removed_next : (P : Spot → Type 0) (v : Node) (s : Spot) (n m : ℕ) → IsSync v → EachNext P (move_by v s n m)
    → EachNext P (move_by (Local Nothing) s n m)
removed_next P (Sync h) s n m sync w = w
removed_next P _ s n m sync w = absurd sync

removed_said : (f : Spot → Synced) (l : Locals) (v : Node) (s : Spot) (n m : ℕ) → IsSync v
    → without_syncs (tree_of_move f l (move_by (Local Nothing) s n m)) ≡ without_syncs (tree_of_move f l (move_by v s n m))
removed_said f l (Sync h) s n m sync = refl
removed_said f l _ s n m sync = absurd sync

place_next : (P : Spot → Type 0) (p q : GraphNode) (s : Spot) → IsKeptOrRemoved p q → EachNext P (move_at p s) → EachNext P (move_at q s)
place_next P p q s (inl same) w = subst (λ r. EachNext P (move_at r s)) (sym same) w
place_next P p q s (inr gone) w =
    subst (λ r. EachNext P (move_at r s)) (sym gone.1) (removed_next P p.node s (first_target p) (second_target p) gone.0 w)

place_said : (f : Spot → Synced) (l : Locals) (p q : GraphNode) (s : Spot) → IsKeptOrRemoved p q
    → without_syncs (tree_of_move f l (move_at q s)) ≡ without_syncs (tree_of_move f l (move_at p s))
place_said f l p q s (inl same) = ap (λ r. without_syncs (tree_of_move f l (move_at r s))) same
place_said f l p q s (inr gone) =
    ap (λ r. without_syncs (tree_of_move f l (move_at r s))) gone.1 ∙ removed_said f l p.node s (first_target p) (second_target p) gone.0

move_next : (P : Spot → Type 0) (g h : List GraphNode) (s : Spot) → IsRemoval g h → EachNext P (move g s) → EachNext P (move h s)
unfolding move
move_next P g h s gone w = place_next P (place_at g s.node) (place_at h s.node) s (gone.places s.node) w

move_said : (f : Spot → Synced) (g h : List GraphNode) (s : Spot) → IsRemoval g h
    → without_syncs (tree_of_move f s.locals (move h s)) ≡ without_syncs (tree_of_move f s.locals (move g s))
unfolding move
move_said f g h s gone = place_said f s.locals (place_at g s.node) (place_at h s.node) s (gone.places s.node)

erased_same : (P : Spot → Type 0) (f k : Spot → Synced) → ((s : Spot) → P s → without_syncs (f s) ≡ without_syncs (k s)) → (l : Locals) (m : Move)
    → EachNext P m → without_syncs (tree_of_move f l m) ≡ without_syncs (tree_of_move k l m)
erased_same P f k h l Ends w = refl
erased_same P f k h l (Goes s) w = h s w
erased_same P f k h l (Calls r s) w = ap (tree.Call r) (h s w)
erased_same P f k h l (Syncs o s) w = h s w
erased_same P f k h l (Queries r s) w = ap (tree.Query r) (fun_ext (λ v. h (s v) (w v)))

module _ (g h : List GraphNode) (gone : IsRemoval g h) where
  stays_within : (n : ℕ) (s : Spot) → Within g n s → Within h n s
  stays_within zero s w = absurd w
  stays_within (suc n) s w =
      let inside : s.node < length h = omega (arith, gone.long, w.0) in
      (inside, move_next (Within h n) g h s gone (next_up (Within g n) (Within h n) (stays_within n) (move g s) w.1))

  says_same : (n : ℕ) (s : Spot) → Within g n s → without_syncs (walk h n s) ≡ without_syncs (walk g n s)
  says_same zero s w = absurd w
  says_same (suc n) s w =
      move_said (walk h n) g h s gone ∙ erased_same (Within g n) (walk h n) (walk g n) (says_same n) s.locals (move g s) w.1

pub removals_keep_walks : RemovalsKeepWalks
removals_keep_walks g h n s gone w = record { ends = stays_within g h gone n s w; says = says_same g h gone n s w }
