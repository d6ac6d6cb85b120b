-- A move of a walk changes what is held just as its node does, and what is said after it depends only on what is said
-- from the next spots. The proofs on walks through coalesced graphs go one move on by these lemmas. Each goes by cases
-- on the move.
use Rattle.std.proofs.Common.{◌≡◌, ℕ, true, false, List, refl, ap}
use Rattle.std.proofs.Math.Path.{fun_ext}
use Rattle.qs_meaning.specs.audit.Solo.{put}
use Rattle.qs_meaning.specs.audit.Interaction as tree
use Rattle.qs_program.specs.audit.Values.{Locals}
use Rattle.qs_graph.specs.declared.node.Node.{Node}
use Rattle.qs_graph.specs.declared.node.Node.TheVariants.{Entry, Query, Call}
use Rattle.qs_graph.specs.audit.Nodes.{GraphNode, place_at}
use Rattle.qs_graph.specs.Nodes.{over_objects}
use Rattle.qs_graph.specs.audit.Synced.{Synced}
use Rattle.qs_graph.specs.Synced.{without_syncs}
use Rattle.qs_graph.specs.audit.Walk.{Spot, Move, Ends, Goes, Calls, Syncs, Queries, move, move_by, move_at, tree_of_move}
use Rattle.qs_graph.specs.Walk.{EachNext}
use Rattle.qs_syncset.specs.held.Flow.{Holding, held_after}
use Rattle.qs_syncset.specs.SoundSynced.{IsSoundSynced}

abbrev pub after_move : Move → Holding → Holding
after_move (Calls r s) held = put held r.object false
after_move (Syncs h s) held = put held h true
after_move _ held = held

after_by : (g : List GraphNode) (v : Node) (s : Spot) (n m : ℕ) (held : Holding) → after_move (move_by v s n m) held ≡ held_after (over_objects g) v held
after_by g Entry s n m held = refl
after_by g _ s n m held = refl

-- a move does to what is held what its node does
pub after_is : (g : List GraphNode) (s : Spot) (held : Holding) → after_move (move g s) held ≡ held_after (over_objects g) (place_at g s.node).node held
unfolding move
after_is g s held = after_by g (place_at g s.node).node s _ _ held

-- where two graphs have the same place, a walk moves alike
pub move_same : (g new : List GraphNode) (s : Spot) → place_at new s.node ≡ place_at g s.node → move new s ≡ move g s
unfolding move
move_same g new s same = ap (λ p. move_at p s) same

pub move_here : (g : List GraphNode) (s : Spot) (p : GraphNode) → place_at g s.node ≡ p → move g s ≡ move_at p s
unfolding move
move_here g s p same = ap (λ p. move_at p s) same

pub next_three : (P Q R T : Spot → Type 0) → ((s : Spot) → P s → Q s → R s → T s)
    → (m : Move) → EachNext P m → EachNext Q m → EachNext R m → EachNext T m
next_three P Q R T f Ends p q r = tt
next_three P Q R T f (Goes s) p q r = f s p q r
next_three P Q R T f (Calls o s) p q r = f s p q r
next_three P Q R T f (Syncs h s) p q r = f s p q r
next_three P Q R T f (Queries o s) p q r = λ v. f (s v) (p v) (q v) (r v)

pub sound_next : (m : Move) (held : Holding) (go : Spot → Synced) (l : Locals) → IsSoundSynced held (tree_of_move go l m)
    → EachNext (λ t. IsSoundSynced (after_move m held) (go t)) m
sound_next Ends held go l w = tt
sound_next (Queries r s) held go l w = w.1
sound_next _ held go l w = w

-- the same said otherwise from the next spots on
pub sound_said : (m : Move) (held : Holding) (go other : Spot → Synced) (l : Locals) → IsSoundSynced held (tree_of_move go l m)
    → EachNext (λ t. IsSoundSynced (after_move m held) (other t)) m → IsSoundSynced held (tree_of_move other l m)
sound_said Ends held go other l w each = tt
sound_said (Queries r s) held go other l w each = (w.0, each)
sound_said _ held go other l w each = each

pub erased_said : (m : Move) (go other : Spot → Synced) (l : Locals) → EachNext (λ t. without_syncs (other t) ≡ without_syncs (go t)) m
    → without_syncs (tree_of_move other l m) ≡ without_syncs (tree_of_move go l m)
erased_said Ends go other l each = refl
erased_said (Calls r s) go other l each = ap (tree.Call r) each
erased_said (Queries r s) go other l each = ap (tree.Query r) (fun_ext each)
erased_said _ go other l each = each
