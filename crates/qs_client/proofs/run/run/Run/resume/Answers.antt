use Rattle.std.proofs.Common.{◌≡◌, sym, ap, ◌∙◌, subst, List}
use Rattle.qs_graph.specs.audit.Nodes as places
use Rattle.qs_syncset.specs.audit.Codes.{code_at}
use Rattle.qs_client.specs.run.Running.{IsRunning}
use Rattle.qs_client.proofs.run.StepRefinement.{restaged, settled_at}
use Rattle.qs_client.specs.declared.run.stage.Stage.TheVariants as stages
use Rattle.qs_client.specs.contracts.run.run.Run.{the_view}
use Rattle.qs_client.proofs.run.run.Run.resume.Goals as goal

pub returns : goal.returns
returns c =
    rw (← c.self.view_is)
    (
    let k = c.args.ticket.index in
    let graph : c.graph.result.now.nodes ≡ (code_at c.args.code.now k).graph = c.graph.ensures.value ∙ ap (λ n. (code_at c.args.code.now n).graph) c.from-block.ensures in
    let list : c.reserved.result.now ≡ (code_at c.args.code.now k).reserved = c.reserved.ensures.value ∙ ap (λ n. (code_at c.args.code.now n).reserved) c.from-block.ensures in
    record {
      settled = λ settings begun p n dynamic w.
          settled_at _ _ _ _ settings c.args.ticket begun p n (the_view c.self.inside) c.settle.new.self stages.Runs graph list
          (c.settle.ensures.settled settings begun p n (dynamic ∙ sym c.is_dynamic.ensures.value)
          (subst (λ (g : List places.GraphNode). IsRunning g settings.size k n (record (the_view c.self.inside) { stage = stages.Runs })) (sym graph)
          (restaged _ settings.size k n (the_view c.self.inside) stages.Runs w)));
    }
    )
