-- A block's tree with its synchronisations is sound, and a walk through sound nodes asks the block's list alone.
use Rattle.std.proofs.Common.{ℕ, zero, suc, Bool, true, false, if◌then◌else◌, List, slice_set}
use Rattle.qs_meaning.specs.audit.Solo.{put}
use Rattle.qs_program.specs.audit.Statements.{Statements, end, command, query, assign, choose, again, leave}
use Rattle.qs_program.specs.audit.Values.{Locals, expr_value, test_value}
use Rattle.qs_program.specs.declared.program.Declared.{Declared}
use Rattle.qs_graph.specs.declared.node.Node.{Node}
use Rattle.qs_graph.specs.declared.node.Node.TheVariants.{Sync, Query, Call, Exit}
use Rattle.qs_graph.specs.audit.Nodes.{GraphNode, place_at, exit}
use Rattle.qs_graph.specs.SoundNodes.{IsSoundNode, AreSoundNodes}
use Rattle.qs_graph.specs.audit.Synced.{Synced, Done}
use Rattle.qs_graph.specs.Synced.{Next, turns, meaning, synced_of}
use Rattle.qs_graph.specs.audit.Walk.{Spot, move, move_by, tree_of_move, walk}
use Rattle.qs_graph.proofs.Ranges.{all_at}
use Rattle.qs_syncset.specs.held.Flow.{Holding}
use Rattle.qs_syncset.specs.SoundSynced.{IsSoundSynced, IsOnReserved}
use Rattle.qs_syncset.proofs.held.Paths.{put_same}

-- whatever is held and whatever the variables are
abbrev Always : Next → Type 0
Always next = (held : Holding) (l : Locals) → IsSoundSynced held (next l)

sound_if : (held : Holding) (b : Bool) (p q : Synced) → IsSoundSynced held p → IsSoundSynced held q
    → IsSoundSynced held (if b then p else q)
sound_if held true p q one other = one
sound_if held false p q one other = other

turns_sound : (n : ℕ) (body : Next → Next) (next : Next) → ((turn : Next) → Always turn → Always (body turn)) → Always next
    → Always (turns n body next)
turns_sound zero body next each later = later
turns_sound (suc n) body next each later = each (turns n body next) (turns_sound n body next each later)

meaning_sound : (b : Statements) (next leaves : Next) → Always next → Always leaves → Always (meaning b next leaves)
meaning_sound end next leaves later out held l = later held l
meaning_sound (command c rest) next leaves later out held l = meaning_sound rest next leaves later out (put held c.object false) l
meaning_sound (query x c rest) next leaves later out held l =
    (put_same held c.object true, λ v. meaning_sound rest next leaves later out (put held c.object true) (slice_set l x v))
meaning_sound (assign x e rest) next leaves later out held l =
    meaning_sound rest next leaves later out held (slice_set l x (expr_value l e))
meaning_sound (choose t b first other rest) next leaves later out held l =
    let after = meaning rest next leaves in
    let after_ok : Always after = meaning_sound rest next leaves later out in
    sound_if held (test_value l t) (meaning first after leaves l) (meaning other after leaves l)
    (meaning_sound first after leaves after_ok out held l) (meaning_sound other after leaves after_ok out held l)
meaning_sound (again n body rest) next leaves later out held l =
    let after = meaning rest next leaves in
    let after_ok : Always after = meaning_sound rest next leaves later out in
    turns_sound n (λ turn. meaning body turn after) after (λ turn ok. meaning_sound body turn after ok after_ok) after_ok held l
meaning_sound (leave rest) next leaves later out held l = out held l

pub block_sound : (b : Statements) (l : Locals) (held : Holding) → IsSoundSynced held (synced_of b l)
block_sound b l held = meaning_sound b Done Done (λ _ _. tt) (λ _ _. tt) held l

module _ (objects : List Declared) (reserved : List ℕ) where
  said_reserved : (go : Spot → Synced) → ((t : Spot) → IsOnReserved reserved (go t)) → (l : Locals) (v : Node) (s : Spot) (n m : ℕ)
      → IsSoundNode objects reserved v → IsOnReserved reserved (tree_of_move go l (move_by v s n m))
  said_reserved go ok l (Sync h) s n m sound = (sound, ok _)
  said_reserved go ok l (Query x c) s n m sound = (sound.1.reserves, λ v. ok _)
  said_reserved go ok l (Call c) s n m sound = (sound.reserves, ok _)
  said_reserved go ok l Exit s n m sound = tt
  said_reserved go ok l _ s n m sound = ok _

  pub walk_reserved : (g : List GraphNode) → AreSoundNodes objects reserved g → (n : ℕ) (s : Spot) → IsOnReserved reserved (walk g n s)
  unfolding move
  walk_reserved g nodes zero s = tt
  walk_reserved g nodes (suc n) s =
      let here : IsSoundNode objects reserved (place_at g s.node).node =
      all_at (λ (p : GraphNode). IsSoundNode objects reserved p.node) (λ (p : GraphNode). IsSoundNode objects reserved p.node) g s.node exit nodes
      (λ p w. w) tt in
      said_reserved (walk g n) (walk_reserved g nodes n) s.locals (place_at g s.node).node s _ _ here
