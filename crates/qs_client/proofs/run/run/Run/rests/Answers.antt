use Rattle.std.proofs.Common.{sym, ap, ◌∙◌}
use Rattle.qs_program.specs.audit.Values.{request_of}
use Rattle.qs_graph.specs.audit.Nodes.{place_at, first_target}
use Rattle.qs_graph.specs.audit.Walk.{Move, at_node}
use Rattle.qs_graph.specs.declared.node.Node.TheVariants as v
use Rattle.qs_client.specs.run.Holdings.{holding_at, chunk_at}
use Rattle.qs_client.specs.run.Running.{step_by, sync}
use Rattle.qs_client.specs.run.RunState.{RunState}
use Rattle.qs_client.specs.contracts.run.run.Run.{the_view}
use Rattle.qs_client.proofs.run.StepAtNode.{moves}
use Rattle.qs_client.proofs.run.CallAndQuery.{still_call, still_sync, untrue}
use Rattle.qs_client.proofs.run.run.Run.rests.Goals as goal

pub returns-in-Call : goal.returns-in-Call
returns-in-Call c =
    rw (← c.self.view_is)
    (
    let s : RunState = the_view c.self.inside in
    let g = c.args.graph.now.nodes in
    let is = ap (λ n. (place_at g n).node) (sym c.node.ensures.value) ∙ sym c.node-2.ensures.value ∙ c.in-Call.is in
    let h = c.in-Call.call.object in
    record {
      still = λ stays context reserved dynamic.
          ap (λ (m : Move). step_by context reserved m s) (moves g s.position (v.Call c.in-Call.call) is)
          ∙ still_call context.ticket.index (request_of s.position.locals c.in-Call.call) (at_node s.position (first_target (place_at g s.position.node))) s
          (holding_at s.holdings h) (chunk_at s.holdings h) (sym c.takes_requests.ensures.value ∙ untrue c.takes_requests.result stays);
    }
    )

pub returns-in-Sync : goal.returns-in-Sync
returns-in-Sync c =
    rw (← c.self.view_is)
    (
    let s : RunState = the_view c.self.inside in
    let g = c.args.graph.now.nodes in
    let is = ap (λ n. (place_at g n).node) (sym c.node.ensures.value) ∙ sym c.node-2.ensures.value ∙ c.in-Sync.is in
    let h = c.in-Sync.name in
    record {
      still = λ stays context reserved dynamic.
          let t = at_node s.position (first_target (place_at g s.position.node)) in
          ap (λ (m : Move). step_by context reserved m s) (moves g s.position (v.Sync h) is)
          ∙ ap (λ d. sync d h t s) dynamic
          ∙ still_sync c.args.dynamic h t s (sym c.skips.ensures.value ∙ untrue c.skips.result stays);
    }
    )
