use Rattle.std.proofs.Common.{◌≡◌, ℕ, refl, sym, ◌∙◌, arith, []}
use Rattle.qs_client.specs.audit.rules.Client.{Settings, ClientStage, between}
use Rattle.qs_client.proofs.run.StepRefinement.{HasGoneOn, goes_on, stops, moves_fall, keeps_rows, keeps_both, stopped_up}
use Rattle.qs_client.proofs.run.run.Run.settle.Goals as goal

pub moves-init : goal.moves-init
moves-init c = record {
  stands = c.requires.stands;
  on = λ settings begun p n dynamic w. record { stands = c.requires.stands; left = n; fewer = omega arith; rows = keeps_rows c.args.context.ticket.index c.args.self.now.traces; counts = refl; running = w; same = refl };
}

pub step-requires : goal.step-requires
step-requires c =
    let w = c.requires.running in
    let settings : Settings = record { dynamic = c.args.context.dynamic; size = w.0 } in
    let on = c.moves.invariant.on settings 0 (between []) w.1 refl w.2 in
    record { running = (w.0, on.left, on.running) }

pub moves-preserved : goal.moves-preserved
moves-preserved c =
    let next = λ (settings : Settings) (begun : ℕ) (p : ClientStage) (n : ℕ) (dynamic : settings.dynamic ≡ c.args.context.dynamic)
    (on : HasGoneOn c.args.graph.now.nodes settings c.args.context c.args.reserved.now begun p n c.args.self.now c.moves.self).
    goes_on c.args.graph.now.nodes settings c.args.context c.args.reserved.now begun p on.left c.moves.self c.step.new.self c.keeps_graph.ensures.graph dynamic on.stands on.running c.step.ensures.new (sym c.step.ensures.on ∙ c.if-not-step.false) in
    let w = c.requires.running in
    let settings : Settings = record { dynamic = c.args.context.dynamic; size = w.0 } in
    record {
      stands = (next settings 0 (between []) w.1 refl (c.moves.invariant.on settings 0 (between []) w.1 refl w.2)).stands;
      on = λ settings begun p n dynamic w.
          let on = c.moves.invariant.on settings begun p n dynamic w in
          let more = next settings begun p n dynamic on in
          record { stands = more.stands; left = more.left; fewer = omega (arith, on.fewer, more.fewer); rows = keeps_both c.args.context.ticket.index _ _ _ on.rows more.rows; counts = more.counts ∙ on.counts; running = more.running; same = on.same ∙ more.same };
    }

pub moves-smaller : goal.moves-smaller
moves-smaller c =
    let w = c.requires.running in
    let settings : Settings = record { dynamic = c.args.context.dynamic; size = w.0 } in
    let on = c.moves.invariant.on settings 0 (between []) w.1 refl w.2 in
    moves_fall c.args.graph.now.nodes settings c.args.context c.args.reserved.now 0 (between []) on.left c.moves.self c.step.new.self c.keeps_graph.ensures.graph refl on.stands on.running c.step.ensures.new (sym c.step.ensures.on ∙ c.if-not-step.false)

pub returns-then-not-step : goal.returns-then-not-step
returns-then-not-step c = record {
  settled = λ settings begun p n dynamic w.
      let on = c.moves.invariant.on settings begun p n dynamic w in
      let end = stops c.args.graph.now.nodes settings c.args.context c.args.reserved.now begun p on.left c.moves.self c.step.new.self c.keeps_graph.ensures.graph dynamic on.stands on.running c.step.ensures.new (sym c.step.ensures.on ∙ c.if-not-step.true) in
      record { stopped = stopped_up c.args.graph.now.nodes c.args.reserved.now settings.size c.args.context.ticket.index on.left n c.step.new.self c.step.new.self.stage on.fewer end.stopped; rows = keeps_both c.args.context.ticket.index _ _ _ on.rows end.rows; counts = end.counts ∙ on.counts; same = on.same ∙ end.same };
}
