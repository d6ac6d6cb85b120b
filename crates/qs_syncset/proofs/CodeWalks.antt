-- Walks through the graphs of a client's code end within the limit, say the block's tree but for synchronisations, and
-- make each query on an object that is held. The proofs on clients, on their threads and on the optimised machine begin
-- from it. In each mode the graph is the one that was built, or has lost synchronisations with objects that are held.
use Rattle.std.proofs.Common.{◌≡◌, inl, inr, ℕ, suc, ◌<◌, ◌≤◌, Bool, true, false, List, [], ◌∷◌, length, get_or, refl, sym, ap, ◌∙◌, subst, arith}
use Rattle.std.specs.List.{AllByRecursion}
use Rattle.qs_objects.proofs.Elements.{AllByRecursion-get_or}
use Rattle.qs_program.specs.audit.Program.{ProgramShape, binding_of, block_at}
use Rattle.qs_program.specs.audit.Statements.{Statements}
use Rattle.qs_program.specs.audit.Values.{Locals}
use Rattle.qs_program.specs.declared.program.Declared.{Declared}
use Rattle.qs_graph.specs.audit.Bound.{bound_nodes}
use Rattle.qs_graph.specs.audit.Graphs.{block_graph}
use Rattle.qs_graph.specs.audit.Names.{graph_of}
use Rattle.qs_graph.specs.audit.Nodes.{GraphNode, exit}
use Rattle.qs_graph.specs.SoundNodes.{IsSoundNode, AreSoundNodes}
use Rattle.qs_graph.specs.audit.Steps.{limit}
use Rattle.qs_graph.specs.Synced.{without_syncs}
use Rattle.qs_graph.specs.audit.Walk.{entry}
use Rattle.qs_graph.specs.WalkLaws.{FollowsBlock}
use Rattle.qs_graph.specs.WellFormed.{IsGraph}
use Rattle.qs_graph.proofs.Alone.{syncs_erased}
use Rattle.qs_graph.proofs.Limits.{walks_within_limit}
use Rattle.qs_graph.proofs.Ranges.{blocks_have_graphs}
use Rattle.qs_syncset.specs.audit.Codes.{IsBoundGraphOf, code_at}
use Rattle.qs_syncset.specs.SyncCounts.{Decides}
use Rattle.qs_syncset.specs.CodeLaws.{WalksAreSound, NodesStaySound}
use Rattle.qs_syncset.specs.held.Flow.{nothing}
use Rattle.qs_syncset.specs.audit.Modes.{is_static}
use Rattle.qs_syncset.specs.SoundSynced.{IsSoundSynced}
use Rattle.qs_syncset.proofs.SoundTrees.{block_sound, walk_reserved}
use Rattle.qs_program.specs.Sound.{IsSound}
use Rattle.qs_syncset.proofs.NamesAndKinds.{names_known}
use Rattle.qs_syncset.proofs.Removals.{IsDecidedBy, IsSoundRemoval, decided_bound, none_removed, removal_bound}
use Rattle.qs_syncset.proofs.CoalescedWalks.{IsReduced, reduced}

all_from : {X : Type 0} (P : X → Type 0) (xs : List X) (d : X) → ((i : ℕ) → i < length xs → P (get_or xs i d)) → AllByRecursion P xs
all_from P [] d each = tt
all_from P (x ∷ xs) d each = (each 0 (omega arith), all_from P xs d (λ i l. each (suc i) (omega arith)))

-- the nodes that are left are sound where those of the graph are
left_nodes : (objects : List Declared) (reserved : List ℕ) (g new : List GraphNode) → IsSoundRemoval g new → AreSoundNodes objects reserved g
    → AreSoundNodes objects reserved new
left_nodes objects reserved g new c nodes =
    let P = λ (p : GraphNode). IsSoundNode objects reserved p.node in
    all_from P new exit (λ i l.
    let inside : i < length g = rw (← c.count) l in
    elim (c.places i inside) [
      | inl same ↦ subst P (sym same) (AllByRecursion-get_or P g i exit nodes inside)
      | inr r ↦ subst P (sym r.place) tt
    ])

-- ---- the graph of a code

-- some synchronisations are removed, each where its object is held
pub removal_of : (p : ProgramShape) (c k : ℕ) → IsSound p → (static : Bool) (g : List GraphNode)
    → IsBoundGraphOf static (graph_of p c k) (binding_of p c) g → IsSoundRemoval (block_graph (block_at p c k).body) g
removal_of p c k sound false g (names, same, is) =
    let built : block_graph (block_at p c k).body ≡ bound_nodes (binding_of p c) (graph_of p c k).nodes = (blocks_have_graphs p c k sound).bound in
    let stays : g ≡ block_graph (block_at p c k).body = is ∙ ap (bound_nodes (binding_of p c)) same ∙ sym built in
    subst (IsSoundRemoval (block_graph (block_at p c k).body)) (sym stays) (none_removed (block_graph (block_at p c k).body))
removal_of p c k sound true g (names, coalesced, is) =
    let built : block_graph (block_at p c k).body ≡ bound_nodes (binding_of p c) (graph_of p c k).nodes = (blocks_have_graphs p c k sound).bound in
    subst (λ x. IsSoundRemoval x g) (sym built)
    (subst (IsSoundRemoval (bound_nodes (binding_of p c) (graph_of p c k).nodes)) (sym is)
    (removal_bound (binding_of p c) (graph_of p c k) (names_known p c k sound) names coalesced))

-- and a test by names tells which
pub decided_of : (p : ProgramShape) (c k : ℕ) → IsSound p → (g : List GraphNode)
    → IsBoundGraphOf true (graph_of p c k) (binding_of p c) g → (held : ℕ → Bool)
    → Decides (graph_of p c k) held → IsDecidedBy (block_graph (block_at p c k).body) g held
decided_of p c k sound g (names, coalesced, is) held decides =
    let built : block_graph (block_at p c k).body ≡ bound_nodes (binding_of p c) (graph_of p c k).nodes = (blocks_have_graphs p c k sound).bound in
    subst (λ x. IsDecidedBy x g held) (sym built)
    (subst (λ y. IsDecidedBy (bound_nodes (binding_of p c) (graph_of p c k).nodes) y held) (sym is)
    (decided_bound (binding_of p c) (graph_of p c k) (names_known p c k sound) names coalesced held decides))

pub nodes_stay_sound : NodesStaySound
nodes_stay_sound p mode client code sound of k inside =
    left_nodes p.objects (block_at p client k).reserved (block_graph (block_at p client k).body) (code_at code k).graph
    (removal_of p client k sound (is_static mode) (code_at code k).graph (of.blocks k inside).graph)
    (blocks_have_graphs p client k sound).sound

-- the walk with all its synchronisations, and the one with those that are left
pub left_walk : (b : Statements) (l : Locals) (counts : List ℕ) → FollowsBlock limit b l counts → IsGraph (block_graph b)
    → (g : List GraphNode) → IsSoundRemoval (block_graph b) g
    → IsReduced (block_graph b) g limit (entry l counts) nothing
left_walk b l counts f ok g c =
    reduced (block_graph b) g ok c limit (entry l counts) [] refl f.ends
    (subst (IsSoundSynced nothing) (sym f.tree) (block_sound b l nothing))

pub walks_are_sound : WalksAreSound
walks_are_sound p mode client code sound of k l counts inside room =
    let b = block_at p client k in
    let g = (code_at code k).graph in
    let left : IsSoundRemoval (block_graph b.body) g = removal_of p client k sound (is_static mode) g (of.blocks k inside).graph in
    let long : length (block_graph b.body) ≤ length counts = omega (arith, left.count) in
    let f : FollowsBlock limit b.body l counts = walks_within_limit p client k l counts sound long in
    let w : IsReduced (block_graph b.body) g limit (entry l counts) nothing =
    left_walk b.body l counts f (blocks_have_graphs p client k sound).graph g left in
    record {
      ends = w.ends;
      tree = w.tree ∙ ap without_syncs f.tree ∙ syncs_erased b.body l;
      sound = w.sound;
      reserved = walk_reserved p.objects b.reserved g (nodes_stay_sound p mode client code sound of k inside) limit (entry l counts);
    }
