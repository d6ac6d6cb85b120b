-- The quiet move of a client by the kind of its node. `Run::step` matches on the node, while the definition goes by the
-- walk's move; each arm of the code needs that the two are one. The idea: a move is a function of the node that is
-- found, and of the nodes to which it leads.
use Rattle.std.proofs.Common.{◌≡◌, ℕ, List, refl, ap, sym, ◌∙◌}
use Rattle.qs_graph.specs.declared.node.Node.{Node}
use Rattle.qs_graph.specs.audit.Nodes.{GraphNode, place_at, first_target, second_target}
use Rattle.qs_graph.specs.audit.Walk.{Spot, Move, move, move_by}
use Rattle.qs_graph.specs.declared.node.Node.TheVariants as nodes
use Rattle.qs_client.specs.run.BetweenActs.{await_by}
use Rattle.qs_client.specs.run.Running.{quiet_step, step_by}
use Rattle.qs_client.specs.run.RunState.{RunState}
use Rattle.qs_client.specs.declared.run.run.BlockContext.{BlockContext}

pub moves : (g : List GraphNode) (s : Spot) (v : Node) → (place_at g s.node).node ≡ v
    → move g s ≡ move_by v s (first_target (place_at g s.node)) (second_target (place_at g s.node))
unfolding move
moves g s v e = ap (λ (w : Node). move_by w s (first_target (place_at g s.node)) (second_target (place_at g s.node))) e

-- n is the client's node, next and other are where it leads
pub step_at : (g : List GraphNode) (context : BlockContext) (reserved : List ℕ) (s : RunState) (n next other : ℕ) (v : Node)
    → n ≡ s.position.node → next ≡ first_target (place_at g n) → other ≡ second_target (place_at g n) → (place_at g n).node ≡ v
    → step_by context reserved (move_by v s.position next other) s ≡ quiet_step g context reserved s
step_at g context reserved s n next other v at first second is =
    (λ i. step_by context reserved (move_by v s.position (first i) (second i)) s)
    ∙ (λ i. step_by context reserved (move_by v s.position (first_target (place_at g (at i))) (second_target (place_at g (at i)))) s)
    ∙ ap (λ (m : Move). step_by context reserved m s) (sym (moves g s.position v (ap (λ m. (place_at g m).node) (sym at) ∙ is)))

-- at no synchronisation there is nothing to wait for
pub no_sync : (v : Node) (s : RunState) (a b : ℕ) → ((x : ℕ) → v ≡ nodes.Sync x → ⊥) → await_by (move_by v s.position a b) s ≡ s
no_sync (nodes.Sync x) s a b h = absurd (h x refl)
no_sync _ s a b h = refl
