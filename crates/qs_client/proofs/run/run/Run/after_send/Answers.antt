use Rattle.std.proofs.Common.{◌≡◌, Bool, refl, sym, ap, ◌∙◌, subst, List, ℕ, length}
use Rattle.qs_graph.specs.WellFormed.{IsGraph}
use Rattle.qs_graph.specs.audit.Nodes as places
use Rattle.qs_syncset.specs.audit.Codes.{BlockCode, code_at}
use Rattle.qs_client.specs.run.ClientOfRun.{HasSettled, stage_of}
use Rattle.qs_client.specs.run.BetweenActs.{HasSent, IsOutgoingAt, IsStanding, leave_next, await_object}
use Rattle.qs_client.specs.run.RunState.{RunState}
use Rattle.qs_client.proofs.run.StepRefinement.{full_running, resumes, stops}
use Rattle.qs_client.proofs.run.ArrivalRefinement.{node_inside}
use Rattle.qs_client.specs.run.Running.{IsRunning}
use Rattle.qs_client.specs.declared.run.run.BlockContext.{BlockContext}
use Rattle.qs_client.proofs.run.AfterSyncAndEnd.{awaits_sent, end_sent}
use Rattle.qs_client.specs.declared.rules.outgoing.Outgoing.TheVariants as outgoings
use Rattle.qs_client.specs.declared.run.stage.Stage.TheVariants as stages
use Rattle.qs_client.proofs.run.run.Run.after_send.Goals as goal

pub rests-requires : goal.rests-requires
rests-requires c =
    let s : RunState = c.args.self.now in
    let b : BlockCode = code_at c.args.code.now c.args.ticket.index in
    let graph : c.graph-graph.result.now.nodes ≡ b.graph = c.graph-graph.ensures.value ∙ ap (λ n. (code_at c.args.code.now n).graph) c.from-block.ensures in
    let standing = c.requires.standing in
    let w = subst (IsStanding b standing.0 c.args.ticket.index standing.1 s) (ap (λ (x : RunState). x.stage) (sym c.self.view_is) ∙ c.in-Runs.is) standing.2 in
    record { inside = rw graph (node_inside b.graph w.0 s.position w.2.within) }

pub returns-then-rests : goal.returns-then-rests
returns-then-rests c =
    let s : RunState = c.args.self.now in
    let u = c.args.ticket in
    let b : BlockCode = code_at c.args.code.now u.index in
    let g = c.graph-graph.result.now.nodes in
    let graph : g ≡ b.graph = c.graph-graph.ensures.value ∙ ap (λ n. (code_at c.args.code.now n).graph) c.from-block.ensures in
    let runs = ap (λ (x : RunState). x.stage) (sym c.self.view_is) ∙ c.in-Runs.is in
    let context : BlockContext = record { dynamic = c.is_dynamic.result; ticket = u } in
    let still = c.rests.ensures.still c.if-rests.true context b.reserved refl in
    record {
      sent = λ settings begun most dynamic standing.
          let w = subst (IsStanding b settings.size u.index most s) runs standing in
          let p = stage_of b.graph b.reserved s in
          let settled : HasSettled b.graph settings u b.reserved begun p w.0 s s =
          subst (λ q. HasSettled q settings u b.reserved begun p w.0 s s) graph
          (stops g settings context b.reserved begun p w.0 s s c.keeps_graph.ensures.graph (dynamic ∙ sym c.is_dynamic.ensures.value) runs
          (subst (λ (q : List places.GraphNode). IsRunning q settings.size u.index w.0 s) (sym graph) w.2)
          (sym (ap (λ (q : RunState × Bool). q.0) still)) (ap (λ (q : RunState × Bool). q.1) still)) in
          subst (λ h. HasSent b settings u begun most h s s) (sym c.in-Value.is)
          (resumes b settings u begun w.0 most s s stages.Runs runs w.1 (λ m rest. refl) w.2 settled);
    }

pub returns-else-rests : goal.returns-else-rests
returns-else-rests c =
    let s : RunState = c.args.self.now in
    let b : BlockCode = code_at c.args.code.now c.args.ticket.index in
    record {
      sent = λ settings begun most dynamic standing.
          let w = subst (IsStanding b settings.size c.args.ticket.index most s) (ap (λ (x : RunState). x.stage) (sym c.self.view_is) ∙ c.in-Runs.is) standing in
          subst (λ h. HasSent b settings c.args.ticket begun most h s c.resume.new.self) (sym c.in-Value.is)
          (resumes b settings c.args.ticket begun w.0 most s c.resume.new.self stages.Runs (ap (λ (x : RunState). x.stage) (sym c.self.view_is) ∙ c.in-Runs.is) w.1 (λ m rest. refl) w.2
          (c.resume.ensures.settled settings begun (stage_of b.graph b.reserved s) w.0 dynamic w.2));
    }

pub returns-in-Full : goal.returns-in-Full
returns-in-Full c =
    let s : RunState = c.args.self.now in
    let b : BlockCode = code_at c.args.code.now c.args.ticket.index in
    let h = c.in-Full.field-0 in
    record {
      sent = λ settings begun most dynamic standing.
          let w = subst (IsStanding b settings.size c.args.ticket.index most s) (ap (λ (x : RunState). x.stage) (sym c.self.view_is) ∙ c.in-Full.is) standing in
          let gone = subst (IsOutgoingAt b.graph outgoings.Value s) (ap (λ (x : RunState). x.stage) (sym c.self.view_is) ∙ c.in-Full.is) (subst (λ x. IsOutgoingAt b.graph x s s.stage) c.in-Value.is c.requires.gone) in
          let running = full_running b.graph settings.size c.args.ticket.index w.0 h s gone w.2 in
          subst (λ x. HasSent b settings c.args.ticket begun most x s c.resume-in-Full.new.self) (sym c.in-Value.is)
          (resumes b settings c.args.ticket begun w.0 most s c.resume-in-Full.new.self (stages.Full h) (ap (λ (x : RunState). x.stage) (sym c.self.view_is) ∙ c.in-Full.is) w.1 (λ m rest. refl) running
          (c.resume-in-Full.ensures.settled settings begun (stage_of b.graph b.reserved s) w.0 dynamic running));
    }

pub returns-in-Runs-stage : goal.returns-in-Runs-stage
returns-in-Runs-stage c =
    let s : RunState = c.args.self.now in
    let b : BlockCode = code_at c.args.code.now c.args.ticket.index in
    let graph : c.graph-graph.result.now.nodes ≡ b.graph = c.graph-graph.ensures.value ∙ ap (λ n. (code_at c.args.code.now n).graph) c.from-block.ensures in
    record {
      sent = λ settings begun most dynamic standing.
          let w = subst (IsStanding b settings.size c.args.ticket.index most s) (ap (λ (x : RunState). x.stage) (sym c.self-in-Sync.view_is) ∙ c.in-Runs-stage.is) standing in
          let gone = subst (IsOutgoingAt b.graph (outgoings.Sync c.in-Sync.field-0) s) (ap (λ (x : RunState). x.stage) (sym c.self-in-Sync.view_is) ∙ c.in-Runs-stage.is) (subst (λ x. IsOutgoingAt b.graph x s s.stage) c.in-Sync.is c.requires.gone) in
          let new : c.await_object.new.self ≡ await_object b.graph s = c.await_object.ensures.new ∙ ap (λ (g : List places.GraphNode). await_object g s) graph in
          subst (λ x. HasSent b settings c.args.ticket begun most x s c.await_object.new.self) (sym c.in-Sync.is)
          (
          subst (λ t. HasSent b settings c.args.ticket begun most (outgoings.Sync c.in-Sync.field-0) s t) (sym new)
          (awaits_sent b settings c.args.ticket begun c.in-Sync.field-0 w.0 most s w.1 (subst IsGraph graph c.keeps_graph.ensures.graph) (ap (λ (x : RunState). x.stage) (sym c.self-in-Sync.view_is) ∙ c.in-Runs-stage.is) w.2 gone)
          );
    }

pub returns-in-End : goal.returns-in-End
returns-in-End c =
    let s : RunState = c.args.self.now in
    let b : BlockCode = code_at c.args.code.now c.args.ticket.index in
    let list = c.reserved.ensures.value ∙ ap (λ n. (code_at c.args.code.now n).reserved) c.from-block.ensures in
    record {
      sent = λ settings begun most dynamic standing.
          let new : c.leave_next.new.self ≡ leave_next (length b.reserved) s = c.leave_next.ensures.new ∙ ap (λ (hs : List ℕ). leave_next (length hs) s) list in
          subst (λ x. HasSent b settings c.args.ticket begun most x s c.leave_next.new.self) (sym c.in-End.is)
          (subst (λ t. HasSent b settings c.args.ticket begun most outgoings.End s t) (sym new) (end_sent b settings c.args.ticket begun most s standing));
    }
