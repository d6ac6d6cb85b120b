-- Along a walk through a coalesced graph the synchronisations are those of the graph as it is built, but for those that
-- a test of what is held tells. The count of Syncs in the static mode stands on `kept_is`. It goes by induction on the
-- nodes that the walk may take, with cases on whether the node's synchronisation was removed.
use Rattle.std.proofs.Common.{◌≡◌, inl, inr, ℕ, zero, suc, ◌+◌, ◌<◌, Bool, true, false, ◌==◌, ◌&&◌, if◌then◌else◌, List, [], ◌∷◌, length, refl, sym, ap, ◌∙◌, subst, arith, not}
use Rattle.qs_graph.proofs.Saying.{next_up}
use Rattle.qs_objects.specs.declared.held.Event.{Event}
use Rattle.qs_objects.proofs.Elements.{AllByRecursion-get_or}
use Rattle.qs_meaning.specs.audit.Solo.{value_of}
use Rattle.qs_program.specs.audit.Values.{Locals}
use Rattle.qs_program.specs.audit.Limits.{most_handlers}
use Rattle.qs_graph.specs.declared.node.Node.{Node}
use Rattle.qs_graph.specs.declared.node.Node.TheVariants.{Sync}
use Rattle.qs_graph.specs.audit.Nodes.{GraphNode, place_at, exit, first_target, made_local}
use Rattle.qs_graph.specs.audit.Synced.{Synced}
use Rattle.qs_graph.specs.audit.Walk.{Spot, Move, Ends, Goes, Calls, Syncs, Queries, at_node, move, move_by, tree_of_move, walk}
use Rattle.qs_graph.specs.Walk.{EachNext, Within}
use Rattle.qs_graph.specs.WellFormed.{IsGraph, IsGraphNode, IsInRange}
use Rattle.qs_syncset.specs.SyncCounts.{kept_along, kept_by, syncs_along}
use Rattle.qs_syncset.proofs.Moves.{move_same, move_here}
use Rattle.qs_syncset.proofs.Removals.{IsDecidedBy, IsRemovedHere, IsSoundRemoval}
use Rattle.qs_syncset.proofs.CoalescedWalks.{sync_moves}
use Rattle.qs_syncset.proofs.SyncTrees.{IsAsking, IsQueryOf}

-- where a synchronisation leads
abbrev pub beyond : List GraphNode → Spot → Spot
beyond g s = at_node s (first_target (place_at g s.node))

-- a move to a synchronisation is made at its node
syncs_by : (v : Node) (s : Spot) (a b j : ℕ) (t : Spot) → move_by v s a b ≡ Syncs j t → v ≡ Sync j
syncs_by (Sync k) s a b j t e = let same : k ≡ j = cc in ap Sync same
syncs_by _ s a b j t e = absurd (cc)

syncs_at : (g : List GraphNode) (s : Spot) (j : ℕ) (t : Spot) → move g s ≡ Syncs j t → (place_at g s.node).node ≡ Sync j
unfolding move
syncs_at g s j t e = syncs_by (place_at g s.node).node s _ _ j t e

query_said : (h : ℕ) (go other : Spot → Synced) (l : Locals) (m : Move) → EachNext (λ t. IsQueryOf h (go t) → IsQueryOf h (other t)) m
    → IsQueryOf h (tree_of_move go l m) → IsQueryOf h (tree_of_move other l m)
query_said h go other l (Goes s) each q = each q
query_said h go other l _ each q = q

module _ (g new : List GraphNode) (c : IsSoundRemoval g new) where
  query_here : (h n : ℕ) (s : Spot) → Within g n s → IsQueryOf h (walk g n s) → IsQueryOf h (walk new n s)
  query_here h zero s within q = absurd within
  query_here h (suc n) s within q = elim (c.places s.node within.0) [
    | inl same ↦
        subst (λ m. IsQueryOf h (tree_of_move (walk new n) s.locals m)) (sym (move_same g new s same))
        (query_said h (walk g n) (walk new n) s.locals (move g s)
        (next_up (Within g n) (λ t. IsQueryOf h (walk g n t) → IsQueryOf h (walk new n t)) (query_here h n) (move g s) within.1) q)
    | inr r ↦ absurd (subst (λ m. IsQueryOf h (tree_of_move (walk g n) s.locals m)) (sync_moves g s r.handler r.sync) q)
  ]

  asking_said : (n : ℕ) (l : Locals) (m : Move) → EachNext (Within g n) m → EachNext (λ t. IsAsking (walk g n t) → IsAsking (walk new n t)) m
      → IsAsking (tree_of_move (walk g n) l m) → IsAsking (tree_of_move (walk new n) l m)
  asking_said n l Ends within each a = a
  asking_said n l (Syncs h s) within each a = (query_here h n s within a.0, each a.1)
  asking_said n l (Queries r s) within each a = λ v. each v (a v)
  asking_said n l _ within each a = each a

  -- a synchronisation that is left stands before a query as it did
  pub asking : (n : ℕ) (s : Spot) → Within g n s → IsAsking (walk g n s) → IsAsking (walk new n s)
  asking zero s within a = absurd within
  asking (suc n) s within a = elim (c.places s.node within.0) [
    | inl same ↦
        subst (λ m. IsAsking (tree_of_move (walk new n) s.locals m)) (sym (move_same g new s same))
        (asking_said n s.locals (move g s) within.1
        (next_up (Within g n) (λ t. IsAsking (walk g n t) → IsAsking (walk new n t)) (asking n) (move g s) within.1) a)
    | inr r ↦ removed r (λ t within a. asking n t within a)
  ]
    where
      removed : IsRemovedHere g new s.node → ((t : Spot) → Within g n t → IsAsking (walk g n t) → IsAsking (walk new n t)) → IsAsking (walk new (suc n) s)
      removed r ih =
          let old = sync_moves g s r.handler r.sync in
          let now = move_here new s (made_local (place_at g s.node)) r.place in
          let there : IsAsking (tree_of_move (walk g n) s.locals (Syncs r.handler (beyond g s))) = subst (λ m. IsAsking (tree_of_move (walk g n) s.locals m)) old a in
          subst (λ m. IsAsking (tree_of_move (walk new n) s.locals m)) (sym now) (ih (beyond g s) (subst (EachNext (Within g n)) old within.1) there.1)

-- a synchronisation is with one of 8 handlers
pub in_range : (g : List GraphNode) → IsGraph g → (n : ℕ) → n < length g → (j : ℕ) → (place_at g n).node ≡ Sync j → j < most_handlers
in_range g ok n inside j e =
    let here : IsGraphNode (length g) (place_at g n) = AllByRecursion-get_or (IsGraphNode (length g)) g n exit ok.places inside in
    subst IsInRange e here.in_range

module _ (g new : List GraphNode) (c : IsSoundRemoval g new) (held : ℕ → Bool) (decided : IsDecidedBy g new held) (h : ℕ) where
  -- of no trace there are none
  kept_none : (n : ℕ) (s : Spot) → kept_along g held h n s [] ≡ 0
  kept_none zero s = refl
  kept_none (suc n) s = by_move (move g s) (λ t. kept_none n t)
    where
      by_move : (m : Move) → ((t : Spot) → kept_along g held h n t [] ≡ 0) → kept_by g held h (kept_along g held h n) s.node m [] ≡ 0
      by_move (Goes t) later = later t
      by_move _ later = refl

  abbrev pub Same : ℕ → Spot → Type 0
  Same n t = (es : List Event) (b : Bool) → syncs_along false h b (walk new n t) es ≡ kept_along g held h n t es

  -- the place is as it was
  same_step : (n : ℕ) (s : Spot) (m : Move) → ((j : ℕ) (t : Spot) → m ≡ Syncs j t → held s.node ≡ false) → EachNext (Same n) m
      → (es : List Event) (b : Bool) → syncs_along false h b (tree_of_move (walk new n) s.locals m) es ≡ kept_by g held h (kept_along g held h n) s.node m es
  same_step n s (Goes t) left each es b = each es b
  same_step n s (Calls r t) left each (e ∷ es) b = each es (if r.object == h then false else b)
  same_step n s (Syncs j t) left each (e ∷ es) b = by_case (j == h) refl
    where
      by_case : (x : Bool) → (j == h) ≡ x
          → (if x then 1 + syncs_along false h true (walk new n t) (e ∷ es) else syncs_along false h b (walk new n t) (e ∷ es))
          ≡ (if x && not (held s.node) then 1 else 0) + kept_along g held h n t (e ∷ es)
      by_case true is =
          let not_held : held s.node ≡ false = left j t refl in
          rw not_held (ap (λ k. 1 + k) (each (e ∷ es) true))
      by_case false is = let i = each (e ∷ es) b in omega (arith, i)
  same_step n s (Queries r t) left each (e ∷ es) b = each (value_of e.reply) es b
  same_step n s _ left each _ b = refl

  -- without the test, what is sent through the graph that is left is what is not held in the whole graph
  pub kept_is : (n : ℕ) (s : Spot) → Within g n s → Same n s
  kept_is zero s within es b = absurd within
  kept_is (suc n) s within es b =
      let each : EachNext (Same n) (move g s) = next_up (Within g n) (Same n) (kept_is n) (move g s) within.1 in
      elim (c.places s.node within.0) [
        | inl same ↦
            subst (λ m. syncs_along false h b (tree_of_move (walk new n) s.locals m) es ≡ kept_along g held h (suc n) s es) (sym (move_same g new s same))
            (same_step n s (move g s) (λ j t e. decided.left s.node j within.0 (syncs_at g s j t e) same) each es b)
        | inr r ↦ removed r each
      ]
    where
      removed : IsRemovedHere g new s.node → EachNext (Same n) (move g s) → syncs_along false h b (walk new (suc n) s) es ≡ kept_along g held h (suc n) s es
      removed r each =
          let old = sync_moves g s r.handler r.sync in
          let now = move_here new s (made_local (place_at g s.node)) r.place in
          let next : Same n (beyond g s) = subst (EachNext (Same n)) old each in
          subst (λ m. syncs_along false h b (tree_of_move (walk new n) s.locals m) es ≡ kept_along g held h (suc n) s es) (sym now)
          (subst (λ m. syncs_along false h b (walk new n (beyond g s)) es ≡ kept_by g held h (kept_along g held h n) s.node m es) (sym old) (by_trace es next))
        where
          by_case : (x : Bool) → (r.handler == h) ≡ x → (k : ℕ) → k ≡ (if x && not (held s.node) then 1 else 0) + k
          by_case true is k =
              let holds : held s.node ≡ true = decided.gone s.node within.0 r in
              rw holds (omega arith)
          by_case false is k = omega arith

          by_trace : (es : List Event) → Same n (beyond g s) → syncs_along false h b (walk new n (beyond g s)) es ≡ kept_by g held h
              (kept_along g held h n) s.node (Syncs r.handler (beyond g s)) es
          by_trace [] next = next [] b ∙ kept_none n (beyond g s)
          by_trace (e ∷ es) next = next (e ∷ es) b ∙ by_case (r.handler == h) refl (kept_along g held h n (beyond g s) (e ∷ es))
