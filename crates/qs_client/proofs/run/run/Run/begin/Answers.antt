use Rattle.std.proofs.Common.{◌≡◌, ap, sym, subst}
use Rattle.qs_graph.specs.audit.Walk.{Spot}
use Rattle.qs_syncset.specs.audit.Codes.{BlockCode, code_at}
use Rattle.qs_client.specs.run.Beginning.{at_beginning}
use Rattle.qs_client.specs.run.ClientOfRun.{HasSettled}
use Rattle.qs_client.specs.run.Running.{IsRunning}
use Rattle.qs_client.specs.run.RunState.{RunState}
use Rattle.qs_client.specs.contracts.run.run.Run.{the_view}
use Rattle.qs_client.proofs.run.run.Run.begin.Goals as goal

pub returns : goal.returns
returns c =
    rw (← c.self.view_is)
    (
    let s : RunState = the_view c.self.inside in
    let k = c.args.ticket.index in
    let b : BlockCode = code_at c.args.code.now k in
    let at : ◌≡◌ {A = RunState} (record s { position = c.restart.new.self }) (at_beginning s) =
    ap (λ (w : Spot). record s { position = w }) c.restart.ensures.value in
    record {
      settled = λ settings begun p n dynamic w.
          subst (λ (t : RunState). HasSettled b.graph settings c.args.ticket b.reserved begun p n t c.resume.new.self) at
          (c.resume.ensures.settled settings begun p n dynamic (subst (IsRunning b.graph settings.size k n) (sym at) w));
    }
    )
