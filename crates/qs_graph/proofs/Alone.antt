-- A walk through a graph that does each request at once makes the same trace, variables and states as running the tree
-- that the walk says, and a block's tree without its synchronisations is the block's interaction tree. The law that
-- walks follow their blocks stands on it. The first goes by induction on the nodes that the walk may take, the second
-- by induction on the statements.
use Rattle.std.proofs.Common.{◌≡◌, ℕ, zero, suc, Bool, true, false, if◌then◌else◌, List, slice_set, refl, sym, ap, ◌∙◌, None}
use Rattle.qs_graph.proofs.Common.{again, assign, choose, command, end, fun_ext, leave, Locals, query, request_of, Statements, test_value}
use Rattle.qs_objects.specs.audit.Journals.{answer}
use Rattle.qs_meaning.specs.audit.Solo.{States, BlockResult, states_after, value_of, event, solo}
use Rattle.qs_meaning.specs.audit.Interaction.{Interaction}
use Rattle.qs_meaning.specs.Interaction.{after_event, run}
use Rattle.qs_meaning.specs.Interaction as tree
use Rattle.qs_meaning.specs.audit.Interaction as tree_audit
use Rattle.qs_meaning.proofs.Trees.{trees_agree}
use Rattle.qs_graph.specs.audit.Nodes.{GraphNode}
use Rattle.qs_graph.specs.audit.Synced.{Synced, Done}
use Rattle.qs_graph.specs.Synced.{Next, turns, meaning, synced_of, without_syncs}
use Rattle.qs_graph.specs.audit.Walk.{Spot, Move, Ends, Goes, Calls, Syncs, Queries, move, tree_of_move, walk}
use Rattle.qs_graph.specs.WalkAlone.{result_of_move, walk_alone}
use Rattle.qs_graph.specs.WalkLaws.{SyncsErased}

-- what a tree with its synchronisations does, is what it does without them
abbrev Erases : Next → tree_audit.Next → Type 0
Erases f k = (l : Locals) → without_syncs (f l) ≡ k l

erases_if : (b : Bool) (p q : Synced) (u v : Interaction) → without_syncs p ≡ u → without_syncs q ≡ v → without_syncs (if b then p else q) ≡ (if b then u else v)
erases_if true p q u v h w = h
erases_if false p q u v h w = w

erases_turns : (n : ℕ) (f : Next → Next) (k : tree_audit.Next → tree_audit.Next) (next : Next) (plain : tree_audit.Next)
    → ((a : Next) (b : tree_audit.Next) → Erases a b → Erases (f a) (k b)) → Erases next plain → Erases (turns n f next) (tree.turns n k plain)
erases_turns zero f k next plain h w = w
erases_turns (suc n) f k next plain h w = h (turns n f next) (tree.turns n k plain) (erases_turns n f k next plain h w)

erases : (b : Statements) (next leaves : Next) (plain out : tree_audit.Next) → Erases next plain → Erases leaves out
    → Erases (meaning b next leaves) (tree_audit.meaning b plain out)
erases end next leaves plain out h w l = h l
erases (command c rest) next leaves plain out h w l = ap (tree_audit.Call (request_of l c)) (erases rest next leaves plain out h w l)
erases (query x c rest) next leaves plain out h w l =
    ap (tree_audit.Query (request_of l c)) (fun_ext (λ v. erases rest next leaves plain out h w (slice_set l x v)))
erases (assign x e rest) next leaves plain out h w l = erases rest next leaves plain out h w _
erases (choose t b first other rest) next leaves plain out h w l =
    let later = erases rest next leaves plain out h w in
    erases_if (test_value l t) _ _ _ _ (erases first _ leaves _ out later w l) (erases other _ leaves _ out later w l)
erases (again n body rest) next leaves plain out h w l =
    let later = erases rest next leaves plain out h w in
    erases_turns n _ _ _ _ (λ a b e. erases body a _ b _ e later) later l
erases (leave rest) next leaves plain out h w l = w l

pub syncs_erased : SyncsErased
syncs_erased b l = erases b Done Done tree_audit.Done tree_audit.Done (λ l. refl) (λ l. refl) l

done_is_run : (go : Spot → States → BlockResult) (say : Spot → Synced) → ((s : Spot) (st : States) → go s st ≡ run (without_syncs (say s)) st)
    → (l : Locals) (st : States) (m : Move) → result_of_move go l st m ≡ run (without_syncs (tree_of_move say l m)) st
done_is_run go say h l st Ends = refl
done_is_run go say h l st (Goes s) = h s st
done_is_run go say h l st (Calls r s) = ap (after_event (event r None)) (h s (states_after st r))
done_is_run go say h l st (Syncs o s) = h s st
done_is_run go say h l st (Queries r s) = let v = answer (st r.object) r in ap (after_event (event r v)) (h (s (value_of v)) (states_after st r))

pub alone_is_run : (g : List GraphNode) (n : ℕ) (s : Spot) (st : States) → walk_alone g n s st ≡ run (without_syncs (walk g n s)) st
alone_is_run g zero s st = refl
alone_is_run g (suc n) s st = done_is_run (walk_alone g n) (walk g n) (alone_is_run g n) s.locals st (move g s)

-- a walk that says a block's tree does what the block alone does
pub alone_is_solo : (g : List GraphNode) (n : ℕ) (s : Spot) (st : States) (b : Statements) (l : Locals) → walk g n s ≡ synced_of b l
    → walk_alone g n s st ≡ solo b l st
alone_is_solo g n s st b l says =
    alone_is_run g n s st ∙ ap (λ p. run (without_syncs p) st) says ∙ ap (λ p. run p st) (syncs_erased b l) ∙ sym (trees_agree b l st)
