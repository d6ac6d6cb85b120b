-- A walk through a coalesced graph ends within as many nodes, says the same but for synchronisations, and each query in
-- it is still on an object that is held. The proofs on a client's code stand on `reduced`. It goes by induction on the
-- nodes that the walk may take, and the path behind it shows that a removed synchronisation was not needed.
use Rattle.std.proofs.Common.{◌≡◌, inl, inr, ℕ, zero, suc, ◌<◌, true, List, ◌∷◌, length, refl, sym, ap, ◌∙◌, subst, ext_get_or}
use Rattle.std.proofs.Math.Path.{fun_ext}
use Rattle.std.proofs.lemmas.Bool.{cases_eq}
use Rattle.qs_meaning.specs.audit.Solo.{put}
use Rattle.qs_graph.specs.declared.node.Node.{Node}
use Rattle.qs_graph.specs.declared.node.Node.TheVariants.{Sync}
use Rattle.qs_graph.specs.audit.Nodes.{GraphNode, place_at, exit, made_local, first_target}
use Rattle.qs_graph.specs.Nodes.{over_objects}
use Rattle.qs_graph.specs.audit.Paths.{IsPath}
use Rattle.qs_graph.specs.Synced.{without_syncs}
use Rattle.qs_graph.specs.audit.Walk.{Spot, Goes, Syncs, at_node, move, tree_of_move, walk}
use Rattle.qs_graph.specs.Walk.{EachNext, Within}
use Rattle.qs_graph.specs.WellFormed.{IsGraph}
use Rattle.qs_graph.proofs.Along.{walks_go_along_paths}
use Rattle.qs_graph.proofs.Saying.{next_up}
use Rattle.qs_syncset.specs.audit.Coalesced.{IsRemovedIfHeld}
use Rattle.qs_syncset.specs.CodeLaws.{CoalescingIsUnique}
use Rattle.qs_syncset.specs.held.Flow.{Holding, held_along}
use Rattle.qs_syncset.specs.audit.held.Held.{IsHeld}
use Rattle.qs_syncset.specs.SoundSynced.{IsSoundSynced}
use Rattle.qs_syncset.proofs.held.Paths.{put_same, put_other, synced_along}
use Rattle.qs_syncset.proofs.Removals.{IsSoundRemoval}
use Rattle.qs_syncset.proofs.Moves.{after_move, after_is, move_same, move_here, next_three, sound_next, sound_said, erased_said}

-- what is held already is held as before
put_again : (held : Holding) (h : ℕ) → held h ≡ true → put held h true ≡ held
put_again held h t = fun_ext (λ k. elim (cases_eq h k) [
  | inl same ↦
      let here : put held h true h ≡ held h = put_same held h true ∙ sym t in
      subst (λ n. put held h true n ≡ held n) same here
  | inr other ↦ put_other held h k true other
])

pub sync_moves : (g : List GraphNode) (s : Spot) (h : ℕ) → (place_at g s.node).node ≡ Sync h
    → move g s ≡ Syncs h (at_node s (first_target (place_at g s.node)))
unfolding move
sync_moves g s h e = rw e refl

-- within n nodes the walk is at Exit, it says what the walk with all synchronisations says but for these, and soundly
pub record IsReduced (g new : List GraphNode) (n : ℕ) (s : Spot) (held : Holding) : Type 0 where
  pub ends : Within new n s
  pub tree : without_syncs (walk new n s) ≡ without_syncs (walk g n s)
  pub sound : IsSoundSynced held (walk new n s)

module _ (g new : List GraphNode) (ok : IsGraph g) (c : IsSoundRemoval g new) where
  -- the place is as it was
  kept_step : (n : ℕ) (s : Spot) (held : Holding) → place_at new s.node ≡ place_at g s.node → s.node < length new
      → IsSoundSynced held (walk g (suc n) s)
      → EachNext (λ t. IsReduced g new n t (after_move (move g s) held)) (move g s) → IsReduced g new (suc n) s held
  kept_step n s held same inside sound each =
      let m = move g s in
      let Reduced = λ (t : Spot). IsReduced g new n t (after_move m held) in
      let moves : move new s ≡ m = move_same g new s same in
      record {
        ends = (
          inside,
          subst (EachNext (Within new n)) (sym moves)
              (next_up Reduced (Within new n) (λ t w. w.ends) m each),
        );
        tree = ap (λ k. without_syncs (tree_of_move (walk new n) s.locals k)) moves
            ∙ erased_said m (walk g n) (walk new n) s.locals
            (next_up Reduced (λ t. without_syncs (walk new n t) ≡ without_syncs (walk g n t)) (λ t w. w.tree) m each);
        sound = subst (λ k. IsSoundSynced held (tree_of_move (walk new n) s.locals k)) (sym moves)
            (sound_said m held (walk g n) (walk new n) s.locals sound
            (next_up Reduced (λ t. IsSoundSynced (after_move m held) (walk new n t)) (λ t w. w.sound) m each));
      }

  -- the synchronisation is removed: the walk goes on silently, and what is held stays
  removed_step : (n : ℕ) (s : Spot) (held : Holding) (h : ℕ) (t : Spot) → move g s ≡ Syncs h t → move new s ≡ Goes t → s.node < length new
      → IsReduced g new n t held → IsReduced g new (suc n) s held
  removed_step n s held h t old now inside w = record {
    ends = (inside, rw now w.ends);
    tree = ap (λ k. without_syncs (tree_of_move (walk new n) s.locals k)) now ∙ w.tree ∙ sym (ap (λ k. without_syncs (tree_of_move (walk g n) s.locals k)) old);
    sound = rw now w.sound;
  }

  pub reduced : (n : ℕ) (s : Spot) (before : List ℕ) → IsPath g before s.node → Within g n s
      → IsSoundSynced (held_along (over_objects g) before) (walk g n s) → IsReduced g new n s (held_along (over_objects g) before)
  reduced zero s before path within sound = absurd within
  reduced (suc n) s before path within sound =
      let held = held_along (over_objects g) before in
      let m = move g s in
      let inside : s.node < length new = rw c.count within.0 in
      let paths : EachNext (λ t. IsPath g (s.node ∷ before) t.node) m = walks_go_along_paths g s before ok within.0 path in
      let nexts : EachNext (λ t. IsSoundSynced (after_move m held) (walk g n t)) m = sound_next m held (walk g n) s.locals sound in
      let after : after_move m held ≡ held_along (over_objects g) (s.node ∷ before) = after_is g s held in
      let each : EachNext (λ t. IsReduced g new n t (after_move m held)) m =
      next_three (λ t. IsPath g (s.node ∷ before) t.node) (Within g n) (λ t. IsSoundSynced (after_move m held) (walk g n t))
      (λ t. IsReduced g new n t (after_move m held))
      (λ t p w q. subst (λ k. IsReduced g new n t k) (sym after)
      (reduced n t (s.node ∷ before) p w (subst (λ k. IsSoundSynced k (walk g n t)) after q)))
      m paths within.1 nexts in
      elim (c.places s.node within.0) [
        | inl same ↦ kept_step n s held same inside sound each
        | inr r ↦
            let t = at_node s (first_target (place_at g s.node)) in
            let old : m ≡ Syncs r.handler t = sync_moves g s r.handler r.sync in
            let now : move new s ≡ Goes t = move_here new s (made_local (place_at g s.node)) r.place in
            let stays : after_move m held ≡ held =
            ap (λ k. after_move k held) old ∙ put_again held r.handler (synced_along (over_objects g) r.handler before (r.held before path)) in
            let next : IsReduced g new n t (after_move m held) =
            subst (EachNext (λ u. IsReduced g new n u (after_move m held))) old each in
            removed_step n s held r.handler t old now inside (subst (λ k. IsReduced g new n t k) stays next)
      ]

-- ---- a graph has one coalesced form

one_place : (held : ℕ → Type 0) (v : Node) (old one other : GraphNode) → IsRemovedIfHeld held v old one → IsRemovedIfHeld held v old other
    → one ≡ other
one_place held (Sync h) old one other (inl w) (inl u) = w.1 ∙ sym u.1
one_place held (Sync h) old one other (inl w) (inr u) = absurd (u.0 w.0)
one_place held (Sync h) old one other (inr w) (inl u) = absurd (w.0 u.0)
one_place held (Sync h) old one other (inr w) (inr u) = w.1 ∙ sym u.1
one_place held _ old one other w u = w ∙ sym u

pub coalescing_is_unique : CoalescingIsUnique
coalescing_is_unique g one other w u =
    ext_get_or exit one other (w.count ∙ sym u.count)
    (λ n inside.
    let within : n < length g.nodes = rw (← w.count) inside in
    one_place (IsHeld g n) (place_at g.nodes n).node (place_at g.nodes n) (place_at one n) (place_at other n) (w.places n within) (u.places n within))
