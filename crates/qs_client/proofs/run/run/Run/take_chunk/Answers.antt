use Rattle.std.proofs.Common.{◌≡◌, ◌<◌, Some, [], sym, ap, ◌∙◌, subst, arith, length, List}
use Rattle.qs_objects.specs.declared.Request.{Request}
use Rattle.qs_program.specs.audit.Limits.{most_handlers}
use Rattle.qs_graph.specs.WellFormed.{IsGraph}
use Rattle.qs_graph.specs.audit.Nodes as places
use Rattle.qs_syncset.specs.audit.Codes.{BlockCode, code_at}
use Rattle.qs_chunk.specs.audit.Batch.{Batch, batch}
use Rattle.qs_client.specs.run.NextActs.{with_holdings}
use Rattle.qs_client.specs.run.Holdings.{HoldingsState, with_chunk}
use Rattle.qs_client.specs.run.ClientOfRun.{HasSettled, stage_of}
use Rattle.qs_client.specs.run.Running.{IsRunning}
use Rattle.qs_client.specs.run.BetweenActs.{HasTaken, IsStanding}
use Rattle.qs_client.specs.run.RunState.{RunState}
use Rattle.qs_client.specs.contracts.run.run.Run.{the_view}
use Rattle.qs_client.proofs.run.ArrivalRefinement.{at_call, call_here, eight_here, chunk_running, is_call, node_inside, chunk_comes}
use Rattle.qs_client.proofs.run.run.Run.take_chunk.Goals as goal

pub node-requires-2 : goal.node-requires-2
node-requires-2 c =
    let s : RunState = the_view c.self.inside in
    let k = c.args.ticket.index in
    let b : BlockCode = code_at c.args.code.now k in
    let w = (rw (← c.self.view_is) at c.requires.asked) in
    let graph : c.graph-graph.result.now.nodes ≡ b.graph = c.graph-graph.ensures.value ∙ ap (λ n. (code_at c.args.code.now n).graph) c.from.ensures in
    let at = subst (IsStanding b w.0.size k w.3 s) (at_call b w.0 c.args.ticket w.1 w.2 w.3 s w.4 w.6).stands w.6.standing in
    record {
      in_range = omega (arith, node_inside b.graph at.0 s.position at.2.within, c.node.ensures.value, ap (λ (g : List places.GraphNode). length g) graph);
    }

pub unreachable-requires : goal.unreachable-requires
unreachable-requires c =
    let s : RunState = the_view c.self.inside in
    let b : BlockCode = code_at c.args.code.now c.args.ticket.index in
    let w = (rw (← c.self.view_is) at c.requires.asked) in
    let graph : c.graph-graph.result.now.nodes ≡ b.graph = c.graph-graph.ensures.value ∙ ap (λ n. (code_at c.args.code.now n).graph) c.from.ensures in
    let node : c.node-2.result.now ≡ (places.place_at b.graph s.position.node).node =
    c.node-2.ensures.value ∙ (λ i. (places.place_at (graph i) (c.node.ensures.value i)).node) in
    is_call b.graph s w.4 (at_call b w.0 c.args.ticket w.1 w.2 w.3 s w.4 w.6) (λ x e. c.in_default.not-Call x (node ∙ e))

pub resume-requires : goal.resume-requires
resume-requires c =
    let s : RunState = the_view c.self.inside in
    let k = c.args.ticket.index in
    let b : BlockCode = code_at c.args.code.now k in
    let h = c.in-Call.call.object in
    let w = (rw (← c.self.view_is) at c.requires.asked) in
    let graph : c.graph-graph.result.now.nodes ≡ b.graph = c.graph-graph.ensures.value ∙ ap (λ n. (code_at c.args.code.now n).graph) c.from.ensures in
    let node : c.node-2.result.now ≡ (places.place_at b.graph s.position.node).node =
    c.node-2.ensures.value ∙ (λ i. (places.place_at (graph i) (c.node.ensures.value i)).node) in
    let at = subst (IsStanding b w.0.size k w.3 s) (at_call b w.0 c.args.ticket w.1 w.2 w.3 s w.4 w.6).stands w.6.standing in
    let eight : h < most_handlers = eight_here b.graph at.0 s c.in-Call.call (subst IsGraph graph c.keeps_graph.ensures.graph) at.2.within (sym node ∙ c.in-Call.is) in
    let holdings : c.put_chunk.new.self ≡ with_chunk s.holdings h (Some (batch [] w.0.size)) =
    c.put_chunk.ensures.value ∙ ap (λ x. with_chunk s.holdings h (Some x)) w.5 in
    let some : 0 < w.0.size = omega (arith, c.requires.room, ap (λ (x : Batch Request). x.capacity) w.5) in
    record {
      block = c.requires.block;
      running = (
        w.0.size,
        at.0,
        subst (λ (x : HoldingsState). IsRunning b.graph w.0.size k at.0 (with_holdings s x)) (sym holdings)
            (chunk_running b w.0 c.args.ticket w.1 w.2 w.3 s at.0 h eight some at.2),
      );
    }

pub returns : goal.returns
returns c =
    rw (← c.self.view_is)
    (
    let s : RunState = the_view c.self.inside in
    let u = c.args.ticket in
    let b : BlockCode = code_at c.args.code.now u.index in
    let h = c.in-Call.call.object in
    let graph : c.graph-graph.result.now.nodes ≡ b.graph = c.graph-graph.ensures.value ∙ ap (λ n. (code_at c.args.code.now n).graph) c.from.ensures in
    let node : c.node-2.result.now ≡ (places.place_at b.graph s.position.node).node =
    c.node-2.ensures.value ∙ (λ i. (places.place_at (graph i) (c.node.ensures.value i)).node) in
    record {
      come = λ settings blocks begun most g dynamic chunk w.
          let call = at_call b settings u blocks begun most s g w in
          let at = subst (IsStanding b settings.size u.index most s) call.stands w.standing in
          let eight : h < most_handlers = eight_here b.graph at.0 s c.in-Call.call (subst IsGraph graph c.keeps_graph.ensures.graph) at.2.within (sym node ∙ c.in-Call.is) in
          let holdings : c.put_chunk.new.self ≡ with_chunk s.holdings h (Some (batch [] settings.size)) =
          c.put_chunk.ensures.value ∙ ap (λ x. with_chunk s.holdings h (Some x)) chunk in
          let some : 0 < settings.size = omega (arith, c.requires.room, ap (λ (x : Batch Request). x.capacity) chunk) in
          let running = chunk_running b settings u blocks begun most s at.0 h eight some at.2 in
          let p = stage_of b.graph b.reserved s in
          let settled : HasSettled b.graph settings u b.reserved begun p at.0 (with_holdings s (with_chunk s.holdings h (Some (batch [] settings.size)))) c.resume.new.self =
          subst (λ (x : HoldingsState). HasSettled b.graph settings u b.reserved begun p at.0 (with_holdings s x) c.resume.new.self) holdings
          (c.resume.ensures.settled settings begun p at.0 dynamic
          (subst (λ (x : HoldingsState). IsRunning b.graph settings.size u.index at.0 (with_holdings s x)) (sym holdings) running)) in
          subst (λ x. HasTaken b settings u begun most x s c.resume.new.self) (call_here b.graph s g c.in-Call.call (sym node ∙ c.in-Call.is) call)
          (chunk_comes b settings u blocks begun most s at.0 h c.resume.new.self call.stands at.1 eight at.2 settled);
    }
    )
