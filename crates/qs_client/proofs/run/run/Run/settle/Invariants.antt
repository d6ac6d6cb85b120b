use Rattle.std.proofs.Common.{◌≡◌, ℕ}
use Rattle.qs_graph.specs.audit.Steps.{limit}
use Rattle.qs_client.specs.audit.rules.Client.{Settings, ClientStage}
use Rattle.qs_client.specs.run.Running.{IsRunning}
use Rattle.qs_client.proofs.run.StepRefinement.{HasGoneOn, moves_left}
use Rattle.qs_client.specs.declared.run.stage.Stage.TheVariants as stages
use Rattle.qs_client.proofs.run.run.Run.settle.Given as goal

abbrev pub invariant-moves : goal.invariant-moves
invariant-moves l = record {
  stands : l.self.stage ≡ stages.Runs;
  on : (settings : Settings) (begun : ℕ) (p : ClientStage) (n : ℕ) → settings.dynamic ≡ l.context.dynamic → IsRunning l.graph.nodes settings.size l.context.ticket.index n l.initial.self
      → HasGoneOn l.graph.nodes settings l.context l.reserved begun p n l.initial.self l.self;
}

abbrev pub decreases-moves : goal.decreases-moves
decreases-moves l = moves_left l.graph.nodes l.context l.reserved limit l.self
