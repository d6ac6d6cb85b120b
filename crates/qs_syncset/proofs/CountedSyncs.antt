-- In each mode, the number of Syncs that a client sends for an object in a block is the one that the trace and the
-- graph say. The proofs that machines and threads count rightly stand on it. It goes by cases on the mode, of which
-- each begins from the block's tree with all its synchronisations; and counts at nodes outside the graph make no
-- difference.
use Rattle.std.proofs.Common.{◌≡◌, ◌⊎◌, inl, inr, ℕ, zero, suc, ◌+◌, ◌<◌, ◌≤◌, Bool, true, false, ◌==◌, ◌&&◌, if◌then◌else◌, List, ◌∷◌, length, map, replicate, slice_index_or, slice_set, refl, sym, ap, ◌∙◌, subst, arith, ◌↔◌, nat_lt, not, length-set}
use Rattle.std.specs.List.{range_with_len}
use Rattle.std.proofs.lemmas.Bool.{cases_eq}
use Rattle.std.proofs.lemmas.List.{get_or-set_same, get_or-set_other, get_or-replicate, get_or_past, length-map, length-replicate}
use Rattle.std.proofs.lemmas.List.FromFn.{get_or-map-range_with_len, length-range_with_len}
use Rattle.qs_objects.specs.declared.held.Event.{Event}
use Rattle.qs_meaning.specs.audit.Following.{reserves}
use Rattle.qs_meaning.specs.Following.{AsksOnly, Leads}
use Rattle.qs_meaning.specs.audit.Interaction.{Interaction, tree_of}
use Rattle.qs_program.specs.audit.Program.{ProgramShape, binding_of, block_at, blocks_of}
use Rattle.qs_meaning.specs.audit.Solo.{value_of}
use Rattle.qs_program.specs.Sound.{IsSound}
use Rattle.qs_program.specs.audit.Statements.{Statements}
use Rattle.qs_program.specs.audit.Values.{Locals, expr_value, test_value}
use Rattle.qs_meaning.proofs.SoundTrees.{blocks_ask_only}
use Rattle.qs_graph.specs.declared.node.Node.{Node}
use Rattle.qs_graph.specs.declared.node.Node.TheVariants.{Entry, Local, Branch, Sync, Query, Call, Exit}
use Rattle.qs_graph.specs.declared.node.Action.TheVariants.{Assign, SetCount, Nothing}
use Rattle.qs_graph.specs.declared.node.Choice.TheVariants.{If, Repeat}
use Rattle.qs_graph.specs.audit.Graphs.{block_graph}
use Rattle.qs_graph.specs.audit.Bound.{bound_nodes}
use Rattle.qs_graph.specs.audit.Names.{graph_of}
use Rattle.qs_graph.specs.audit.Nodes.{ControlGraph, GraphNode, place_at, exit, made_local, first_target, second_target}
use Rattle.qs_graph.specs.audit.Steps.{limit}
use Rattle.qs_graph.specs.audit.Synced.{Synced}
use Rattle.qs_graph.specs.Synced.{without_syncs}
use Rattle.qs_graph.specs.audit.Walk.{Spot, move, move_by, after_repeat, walk}
use Rattle.qs_graph.specs.Walk.{EachNext, Within}
use Rattle.qs_graph.specs.WalkLaws.{FollowsBlock}
use Rattle.qs_graph.specs.WellFormed.{IsGraph}
use Rattle.qs_graph.proofs.Alone.{syncs_erased}
use Rattle.qs_graph.proofs.Limits.{walks_within_limit}
use Rattle.qs_graph.proofs.Ranges.{blocks_have_graphs}
use Rattle.qs_syncset.specs.declared.mode.Mode.{Mode}
use Rattle.qs_syncset.specs.audit.Coalesced.{IsRemovedIfHeld, IsCoalesced}
use Rattle.qs_syncset.specs.audit.Codes.{ClientCode, IsBoundGraphOf, IsCodeOf, code_at}
use Rattle.qs_syncset.specs.held.Flow.{nothing}
use Rattle.qs_syncset.specs.audit.held.Held.{IsHeld}
use Rattle.qs_syncset.specs.audit.Modes.{is_dynamic, is_static}
use Rattle.qs_syncset.specs.SoundSynced.{IsSoundSynced}
use Rattle.qs_syncset.specs.SyncCounts.{AreOrdered, Decides, HasTest, SetsDecide, SyncsAreCounted, entry_with, has_synced, kept, kept_along, kept_by, queries, runs, syncs_along}
use Rattle.qs_syncset.proofs.CodeWalks.{decided_of, left_walk, removal_of}
use Rattle.qs_syncset.proofs.Removals.{IsSoundRemoval, none_removed}
use Rattle.qs_syncset.proofs.SyncTrees.{AreAllSynced, IsAsking, block_asks, fewer_is, most_is, plain_is, runs_is}
use Rattle.qs_syncset.proofs.SyncWalks.{asking, in_range, kept_is}

-- a synchronisation is a node of the graph
inside_at : (g : List GraphNode) (n h : ℕ) → (place_at g n).node ≡ Sync h → n < length g
inside_at g n h e = by_case (nat_lt n (length g)) refl
  where
    by_case : (b : Bool) → nat_lt n (length g) ≡ b → n < length g
    by_case true t = grind (arith, t)
    by_case false f =
        let past : place_at g n ≡ exit = get_or_past g n exit (grind (arith, f)) in
        absurd (let never : Exit ≡ Sync h = sym (ap (λ (p : GraphNode). p.node) past) ∙ e in cc)

-- ---- a graph coalesced by a test

coalesced_node : Bool → Node → GraphNode → GraphNode
coalesced_node holds (Sync h) p = if holds then made_local p else p
coalesced_node holds _ p = p

coalesced_by : (ℕ → Bool) → List GraphNode → List GraphNode
coalesced_by held g = map (λ n. coalesced_node (held n) (place_at g n).node (place_at g n)) (range_with_len 0 (length g))

module _ (g : ControlGraph) (held : ℕ → Bool) (decides : Decides g held) where
  removed_by : (n : ℕ) (v : Node) → (place_at g.nodes n).node ≡ v
      → IsRemovedIfHeld (IsHeld g n) v (place_at g.nodes n) (coalesced_node (held n) v (place_at g.nodes n))
  unfolding coalesced_node
  removed_by n (Sync h) e = by_test (held n) refl
    where
      exact : (held n ≡ true → IsHeld g n h) × (IsHeld g n h → held n ≡ true)
      exact = decides n h e

      by_test : (b : Bool) → held n ≡ b
          → IsRemovedIfHeld (IsHeld g n) (Sync h) (place_at g.nodes n) (if b then made_local (place_at g.nodes n) else place_at g.nodes n)
      by_test true t = inl (exact.0 t, refl)
      by_test false f = inr (λ is. (let never : false ≡ true = sym f ∙ exact.1 is in cc), refl)
  removed_by n _ e = refl

  is_coalesced_by : IsCoalesced g (coalesced_by held g.nodes)
  unfolding coalesced_by
  is_coalesced_by =
      let go = λ (n : ℕ). coalesced_node (held n) (place_at g.nodes n).node (place_at g.nodes n) in
      record {
        count = length-map (range_with_len 0 (length g.nodes)) go ∙ length-range_with_len 0 (length g.nodes);
        places = λ n inside.
            subst (λ p. IsRemovedIfHeld (IsHeld g n) (place_at g.nodes n).node (place_at g.nodes n) p)
            (sym (get_or-map-range_with_len go 0 (length g.nodes) n n exit inside (omega arith)))
            (removed_by n (place_at g.nodes n).node refl);
      }

-- ---- where there is a test

is_sync : Node → Bool
is_sync (Sync h) = true
is_sync _ = false

-- a coalesced graph tells of each synchronisation
coalesced_tests : (g : ControlGraph) (new : List GraphNode) → IsCoalesced g new → HasTest g
unfolding is_sync
coalesced_tests g new c = (
  (λ n. not (is_sync (place_at new n).node)),
  λ n h e. by_place n h e
      (subst (λ v. IsRemovedIfHeld (IsHeld g n) v (place_at g.nodes n) (place_at new n)) e (c.places n (inside_at g.nodes n h e))),
)
  where
    by_place : (n h : ℕ) → (place_at g.nodes n).node ≡ Sync h → (IsHeld g n h × (place_at new n ≡ made_local (place_at g.nodes n))) ⊎
        ((IsHeld g n h → ⊥) × (place_at new n ≡ place_at g.nodes n))
        → (not (is_sync (place_at new n).node) ≡ true) ↔ IsHeld g n h
    by_place n h e (inl w) = ((λ t. w.0), λ t. ap (λ (p : GraphNode). not (is_sync p.node)) w.1)
    by_place n h e (inr w) = (
      (λ t. absurd (let never : false ≡ true = sym (ap (λ (p : GraphNode). not (is_sync p.node)) w.1 ∙ ap (λ v. not (is_sync v)) e) ∙ t in cc)),
      λ t. absurd (w.0 t),
    )

pub sets_decide : SetsDecide
sets_decide g sets ok all n h e =
    let inside = inside_at g.nodes n h e in
    subst (λ v. (has_synced sets n v ≡ true) ↔ IsHeld g n h) (sym e) (all.exact n h inside (in_range g.nodes ok n inside h e))

-- ---- counts beyond the graph are of no matter

abbrev spot : ℕ → Locals → List ℕ → Spot
spot n l c = record { node = n; locals = l; counts = c }

-- the same for each of m nodes
record AreAlike (m : ℕ) (c d : List ℕ) : Type 0 where
  one : m ≤ length c
  other : m ≤ length d
  same : (i : ℕ) → i < m → slice_index_or d i 0 ≡ slice_index_or c i 0

alike_set : (m : ℕ) (c d : List ℕ) → AreAlike m c d → (branch k : ℕ) → AreAlike m (slice_set c branch k) (slice_set d branch k)
alike_set m c d a branch k = record {
  one = omega (arith, length-set c branch k, a.one);
  other = omega (arith, length-set d branch k, a.other);
  same = λ i inside. elim (cases_eq i branch) [
    | inl here ↦
        let one : branch < length c = omega (arith, a.one, inside, here) in
        let other : branch < length d = omega (arith, a.other, inside, here) in
        rw here (get_or-set_same d branch k 0 other ∙ sym (get_or-set_same c branch k 0 one))
    | inr there ↦ get_or-set_other d branch i k 0 there ∙ (a.same i inside ∙ sym (get_or-set_other c branch i k 0 there))
  ];
}

module _ (g : List GraphNode) (held : ℕ → Bool) (h : ℕ) where
  abbrev Alike : ℕ → Type 0
  Alike n = (x : ℕ) (l : Locals) (c d : List ℕ) (es : List Event) → AreAlike (length g) c d → Within g n (spot x l c)
      → kept_along g held h n (spot x l d) es ≡ kept_along g held h n (spot x l c) es

  turned_alike : (n : ℕ) → Alike n → (k x a b : ℕ) (l : Locals) (c d : List ℕ) (es : List Event) → AreAlike (length g) c d
      → Within g n (after_repeat k (spot x l c) a b) → kept_along g held h n (after_repeat k (spot x l d) a b) es ≡ kept_along g held h n (after_repeat k (spot x l c) a b) es
  turned_alike n later zero x a b l c d es alike within = later b l c d es alike within
  turned_alike n later (suc k) x a b l c d es alike within = later a l (slice_set c x k) (slice_set d x k) es (alike_set (length g) c d alike x k) within

  alike_by : (n : ℕ) → Alike n → (v : Node) (x a b : ℕ) (l : Locals) (c d : List ℕ) (es : List Event) → AreAlike (length g) c d → x < length g
      → EachNext (Within g n) (move_by v (spot x l c) a b)
      → kept_by g held h (kept_along g held h n) x (move_by v (spot x l d) a b) es ≡ kept_by g held h (kept_along g held h n) x (move_by v (spot x l c) a b) es
  alike_by n later Entry x a b l c d es alike inside within = later a l c d es alike within
  alike_by n later (Local (Assign y e)) x a b l c d es alike inside within = later a (slice_set l y (expr_value l e)) c d es alike within
  alike_by n later (Local (SetCount k)) x a b l c d es alike inside within =
      later a l (slice_set c a k) (slice_set d a k) es (alike_set (length g) c d alike a k) within
  alike_by n later (Local Nothing) x a b l c d es alike inside within = later a l c d es alike within
  alike_by n later (Branch (If t)) x a b l c d es alike inside within = later (if test_value l t then a else b) l c d es alike within
  alike_by n later (Branch Repeat) x a b l c d es alike inside within =
      subst (λ k. kept_along g held h n (after_repeat k (spot x l d) a b) es ≡ kept_along g held h n (after_repeat (slice_index_or c x 0) (spot x l c) a b) es)
      (sym (alike.same x inside)) (turned_alike n later (slice_index_or c x 0) x a b l c d es alike within)
  alike_by n later (Sync j) x a b l c d (e ∷ es) alike inside within =
      ap (λ k. (if (j == h) && not (held x) then 1 else 0) + k) (later a l c d (e ∷ es) alike within)
  alike_by n later (Query y q) x a b l c d (e ∷ es) alike inside within =
      later a (slice_set l y (value_of e.reply)) c d es alike (within (value_of e.reply))
  alike_by n later (Call q) x a b l c d (e ∷ es) alike inside within = later a l c d es alike within
  alike_by n later _ x a b l c d _ alike inside within = refl

  kept_alike : (n : ℕ) → Alike n
  unfolding move
  kept_alike zero x l c d es alike within = refl
  kept_alike (suc n) x l c d es alike within =
      alike_by n (kept_alike n) (place_at g x).node x (first_target (place_at g x)) (second_target (place_at g x)) l c d es alike within.0 within.1

zeros_long : (n : ℕ) → length {A = ℕ} (replicate n 0) ≡ n
zeros_long n = length-replicate {A = ℕ} n 0

zeros_alike : (m n : ℕ) → m ≤ n → AreAlike m (replicate n 0) (replicate m 0)
zeros_alike m n less = record {
  one = omega (arith, zeros_long n, less);
  other = omega (arith, zeros_long m);
  same = λ i inside. get_or-replicate m i 0 0 inside ∙ sym (get_or-replicate n i 0 0 (omega (arith, less, inside)));
}

-- ---- a block, by its statements

module _ (program : ProgramShape) (sound : IsSound program) (client index : ℕ) (l : Locals) where
  abbrev body : Statements
  body = (block_at program client index).body

  abbrev built_graph : List GraphNode
  built_graph = block_graph body

  abbrev names_graph : ControlGraph
  names_graph = graph_of program client index

  abbrev may : ℕ → Bool
  may = reserves program (record { client = client; index = index })

  ok : IsGraph built_graph
  ok = (blocks_have_graphs program client index sound).graph

  follows : (n : ℕ) → length built_graph ≤ n → FollowsBlock limit body l (replicate n 0)
  follows n room = walks_within_limit program client index l (replicate n 0) sound (omega (arith, zeros_long n, room))

  asks_built : (n : ℕ) → length built_graph ≤ n → IsAsking (walk built_graph limit (entry_with n l)) × AreAllSynced false (walk built_graph limit (entry_with n l))
  asks_built n room = subst (λ t. IsAsking t × AreAllSynced false t) (sym (follows n room).tree) (block_asks body l)

  -- the tree of a graph of the block, as it is built or with some synchronisations removed
  record IsTree (tree : Synced) : Type 0 where
    erases : without_syncs tree ≡ tree_of body l
    asks : IsAsking tree
    holds : IsSoundSynced nothing tree

  is_tree : (n : ℕ) → length built_graph ≤ n → (g : List GraphNode) → IsSoundRemoval built_graph g → IsTree (walk g limit (entry_with n l))
  is_tree n room g left =
      let f = follows n room in
      let w = left_walk body l (replicate n 0) f ok g left in
      record {
        erases = w.tree ∙ (ap without_syncs f.tree ∙ syncs_erased body l);
        asks = asking built_graph g left limit (entry_with n l) (follows n room).ends (asks_built n room).0;
        holds = w.sound;
      }

  module _ (es : List Event) (rest : Interaction) (leads : Leads (tree_of body l) es rest) (h : ℕ) where
    only : (tree : Synced) → IsTree tree → AsksOnly may (without_syncs tree)
    only tree is = subst (AsksOnly may) (sym is.erases) (blocks_ask_only program sound (record { client = client; index = index }) l)

    leads_along : (tree : Synced) → IsTree tree → Leads (without_syncs tree) es rest
    leads_along tree is = subst (λ t. Leads t es rest) (sym is.erases) leads

    sent_runs : (tree : Synced) → IsTree tree → syncs_along true h false tree es ≡ runs h es
    sent_runs tree is = runs_is h may tree es nothing false rest (λ t. t) is.asks is.holds (only tree is) (leads_along tree is)

    sent_queries : (n : ℕ) → length built_graph ≤ n → syncs_along false h false (walk built_graph limit (entry_with n l)) es ≡ queries h es
    sent_queries n room =
        let tree = walk built_graph limit (entry_with n l) in
        let is = is_tree n room built_graph (none_removed built_graph) in
        plain_is h may tree es false rest is.asks (asks_built n room).1 (only tree is) (leads_along tree is)

    module _ (held : ℕ → Bool) (decides : Decides names_graph held) where
      sent_kept : (n : ℕ) → length built_graph ≤ n → (g : List GraphNode)
          → IsBoundGraphOf true names_graph (binding_of program client) g
          → syncs_along false h false (walk g limit (entry_with n l)) es ≡ kept body held l h es
      sent_kept n room g c =
          kept_is built_graph g (removal_of program client index sound true g c) held (decided_of program client index sound g c held decides) h limit
          (entry_with n l) (follows n room).ends es false
          ∙ sym (kept_alike built_graph held h limit 0 l (replicate n 0) (replicate (length built_graph) 0) es (zeros_alike (length built_graph) n room) (follows n room).ends)

      are_ordered : AreOrdered body l es h held
      are_ordered =
          let n = length built_graph in
          let names = coalesced_by held names_graph.nodes in
          let g = bound_nodes (binding_of program client) names in
          let c : IsBoundGraphOf true names_graph (binding_of program client) g = (names, is_coalesced_by names_graph held decides, refl) in
          let tree = walk g limit (entry_with n l) in
          let is = is_tree n (omega arith) g (removal_of program client index sound true g c) in
          let same = sent_kept n (omega arith) g c in
          let most = most_is h may tree es false rest is.asks (only tree is) (leads_along tree is) in
          record { least = omega (arith, sent_runs tree is, fewer_is h tree es false false, same); most = omega (arith, most, same) }

-- in the tree of a code each synchronisation stands directly before a query of its object
pub code_asks : (program : ProgramShape) (mode : Mode) (client : ℕ) (code : ClientCode) → IsSound program → IsCodeOf program mode client code
    → (k n : ℕ) (l : Locals) → k < blocks_of program client → length (code_at code k).graph ≤ n
    → IsAsking (walk (code_at code k).graph limit (entry_with n l))
code_asks program mode client code sound of k n l inside room =
    let g = (code_at code k).graph in
    let left = removal_of program client k sound (is_static mode) g (of.blocks k inside).graph in
    (is_tree program sound client k l n (omega (arith, left.count, room)) g left).asks

pub syncs_are_counted : SyncsAreCounted
syncs_are_counted program mode client code sound of k n l es rest h inside room leads =
    let g = (code_at code k).graph in
    let is = (of.blocks k inside).graph in
    let names = graph_of program client k in
    let binding = binding_of program client in
    let b = (block_at program client k).body in
    let left = removal_of program client k sound (is_static mode) g is in
    let long : length (block_graph b) ≤ n = omega (arith, left.count, room) in
    let sent = λ (dynamic : Bool). syncs_along dynamic h false (walk g limit (entry_with n l)) es in
    record {
      plain = λ e.
          let own : IsBoundGraphOf false names binding g = subst (λ m. IsBoundGraphOf (is_static m) names binding g) e is in
          let same : g ≡ block_graph b = own.2 ∙ ap (bound_nodes binding) own.1 ∙ sym (blocks_have_graphs program client k sound).bound in
          ap sent (ap is_dynamic e) ∙ (ap (λ g. syncs_along false h false (walk g limit (entry_with n l)) es) same
          ∙ sent_queries program sound client k l es rest leads h n long);
      dynamic = λ e. ap sent e ∙ sent_runs program sound client k l es rest leads h (walk g limit (entry_with n l))
          (is_tree program sound client k l n long g left);
      static = λ e held decides.
          let c : IsBoundGraphOf true names binding g = subst (λ m. IsBoundGraphOf (is_static m) names binding g) e is in
          ap sent (ap is_dynamic e) ∙ sent_kept program sound client k l es rest leads h held decides n long g c;
      tested = λ e.
          let c : IsBoundGraphOf true names binding g = subst (λ static. IsBoundGraphOf static names binding g) e is in
          coalesced_tests names c.0 c.1;
      ordered = λ held decides. are_ordered program sound client k l es rest leads h held decides;
    }
