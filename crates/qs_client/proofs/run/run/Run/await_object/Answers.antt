use Rattle.std.proofs.Common.{◌≡◌, refl, sym, ap, ◌∙◌}
use Rattle.qs_graph.specs.audit.Nodes.{place_at, first_target}
use Rattle.qs_graph.specs.audit.Walk.{Move, at_node}
use Rattle.qs_graph.specs.declared.node.Node.TheVariants as v
use Rattle.qs_client.specs.run.BetweenActs.{await_by}
use Rattle.qs_client.specs.run.RunState.{RunState}
use Rattle.qs_client.specs.contracts.run.run.Run.{the_view}
use Rattle.qs_client.proofs.run.StepAtNode.{moves, no_sync}
use Rattle.qs_client.specs.declared.run.stage.Stage.TheVariants as stages
use Rattle.qs_client.proofs.run.run.Run.await_object.Goals as goal

pub returns-in-Sync : goal.returns-in-Sync
returns-in-Sync c =
    rw (← c.self.view_is)
    (
    let s : RunState = the_view c.self.inside in
    let g = c.args.graph.now.nodes in
    let next = c.go_to.ensures.value ∙ ap (at_node s.position) (c.first_target.ensures.value ∙ ap (λ n. first_target (place_at g n)) c.node-node.ensures.value) in
    let is = ap (λ n. (place_at g n).node) (sym c.node-node.ensures.value) ∙ sym c.node.ensures.value ∙ c.in-Sync.is in
    record {
      new = (λ i. record s { position = next i; stage = stages.Awaits c.in-Sync.name })
          ∙ ap (λ (m : Move). await_by m s) (sym (moves g s.position (v.Sync c.in-Sync.name) is));
    }
    )

pub returns-in_default : goal.returns-in_default
returns-in_default c =
    rw (← c.self.view_is)
    (
    let s : RunState = the_view c.self.inside in
    let g = c.args.graph.now.nodes in
    let is : c.node.result.now ≡ (place_at g s.position.node).node = c.node.ensures.value ∙ ap (λ n. (place_at g n).node) c.node-node.ensures.value in
    record {
      new = sym (ap (λ (m : Move). await_by m s) (moves g s.position (place_at g s.position.node).node refl)
          ∙ no_sync (place_at g s.position.node).node s _ _ (λ x e. c.in_default.not-Sync x (is ∙ e)));
    }
    )
