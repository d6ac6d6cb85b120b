use Rattle.std.proofs.Common.{◌≡◌, ℕ, refl, sym, ap, ◌∙◌, subst}
use Rattle.qs_program.specs.declared.code.Call as calls
use Rattle.qs_graph.specs.declared.node.Node.{Node}
use Rattle.qs_graph.specs.audit.Nodes.{place_at, first_target, second_target}
use Rattle.qs_graph.specs.audit.Walk.{Move, Spot, move_by}
use Rattle.qs_graph.specs.declared.node.Node.TheVariants as nodes
use Rattle.qs_client.specs.run.NextActs.{act_by, holdings_by, with_holdings}
use Rattle.qs_client.specs.run.Running.{IsLoud}
use Rattle.qs_client.specs.run.RunState.{RunState}
use Rattle.qs_client.specs.contracts.run.run.Run.{the_view}
use Rattle.qs_client.proofs.run.StepAtNode.{moves}
use Rattle.qs_client.proofs.run.run.Run.act_at_node.Goals as goal

neither : (v : Node) (s : Spot) (a b : ℕ) → IsLoud (move_by v s a b) → ((x : ℕ) → v ≡ nodes.Sync x → ⊥) → ((x : calls.Call) → v ≡ nodes.Call x → ⊥) → ⊥
neither (nodes.Sync x) s a b loud sync call = sync x refl
neither (nodes.Call c) s a b loud sync call = call c refl
neither _ s a b loud sync call = loud

pub unreachable-requires : goal.unreachable-requires
unreachable-requires c =
    let s : RunState = the_view c.self.inside in
    let g = c.args.graph.now.nodes in
    let is : c.node-2.result.now ≡ (place_at g s.position.node).node = c.node-2.ensures.value ∙ ap (λ n. (place_at g n).node) c.node.ensures.value in
    neither (place_at g s.position.node).node s.position (first_target (place_at g s.position.node)) (second_target (place_at g s.position.node))
    (subst IsLoud (moves g s.position (place_at g s.position.node).node refl) (rw (← c.self.view_is) at c.requires.loud))
    (λ x e. c.in_default.not-Sync x (is ∙ e))
    (λ x e. c.in_default.not-Call x (is ∙ e))

pub returns-in-Call : goal.returns-in-Call
returns-in-Call c =
    rw (← c.self.view_is)
    (
    let s : RunState = the_view c.self.inside in
    let g = c.args.graph.now.nodes in
    let is = ap (λ n. (place_at g n).node) (sym c.node.ensures.value) ∙ sym c.node-2.ensures.value ∙ c.in-Call.is in
    let at = sym (moves g s.position (nodes.Call c.in-Call.call) is) in
    record {
      act = c.clear_or_chunk.ensures.act ∙ ap (λ (m : Move). act_by s.holdings m) at;
      rest = ap (with_holdings s) (c.clear_or_chunk.ensures.rest ∙ ap (λ (m : Move). holdings_by s.holdings m) at);
    }
    )

pub returns-in-Sync : goal.returns-in-Sync
returns-in-Sync c =
    rw (← c.self.view_is)
    (
    let s : RunState = the_view c.self.inside in
    let g = c.args.graph.now.nodes in
    let is = ap (λ n. (place_at g n).node) (sym c.node.ensures.value) ∙ sym c.node-2.ensures.value ∙ c.in-Sync.is in
    let at = sym (moves g s.position (nodes.Sync c.in-Sync.name) is) in
    record {
      act = c.clear_or_sync.ensures.act ∙ ap (λ (m : Move). act_by s.holdings m) at;
      rest = ap (with_holdings s) (c.clear_or_sync.ensures.rest ∙ ap (λ (m : Move). holdings_by s.holdings m) at);
    }
    )
