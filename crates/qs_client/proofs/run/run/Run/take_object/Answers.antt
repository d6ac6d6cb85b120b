use Rattle.std.proofs.Common.{◌≡◌, Some, sym, subst}
use Rattle.qs_syncset.specs.audit.Codes.{BlockCode, code_at}
use Rattle.qs_client.specs.run.NextActs.{with_holdings}
use Rattle.qs_client.specs.run.Holdings.{HoldingsState, with_held}
use Rattle.qs_client.specs.run.ClientOfRun.{HasSettled, stage_of}
use Rattle.qs_client.specs.run.Running.{IsRunning}
use Rattle.qs_client.specs.run.BetweenActs.{IsStanding}
use Rattle.qs_client.specs.run.RunState.{RunState}
use Rattle.qs_client.specs.contracts.run.run.Run.{the_view}
use Rattle.qs_client.proofs.run.ArrivalRefinement.{awaits_here, object_running, object_comes}
use Rattle.qs_client.proofs.run.run.Run.take_object.Goals as goal

pub unreachable-requires : goal.unreachable-requires
unreachable-requires c =
    let w = (rw (← c.self.view_is) at c.requires.asked) in
    c.in_default.not-Awaits w.4 (awaits_here (code_at c.args.code.now c.args.ticket.index) w.0 c.args.ticket w.1 w.2 w.3 (the_view c.self.inside) w.4 w.5)

pub resume-requires : goal.resume-requires
resume-requires c =
    let s : RunState = the_view c.self.inside in
    let b : BlockCode = code_at c.args.code.now c.args.ticket.index in
    let h = c.in-Awaits.handler in
    let w = (rw (← c.self.view_is) at c.requires.asked) in
    let at = subst (IsStanding b w.0.size c.args.ticket.index w.3 s) c.in-Awaits.is w.5.standing in
    record {
      block = c.requires.block;
      running = (
        w.0.size,
        at.0,
        subst (λ (x : HoldingsState). IsRunning b.graph w.0.size c.args.ticket.index at.0 (with_holdings s x)) (sym c.put_held.ensures.value)
            (object_running b w.0 c.args.ticket w.1 w.2 w.3 s at.0 h c.args.held at.2),
      );
    }

pub returns : goal.returns
returns c =
    rw (← c.self.view_is)
    (
    let s : RunState = the_view c.self.inside in
    let b : BlockCode = code_at c.args.code.now c.args.ticket.index in
    let h = c.in-Awaits.handler in
    record {
      come = λ settings blocks begun most g dynamic w.
          let at = subst (IsStanding b settings.size c.args.ticket.index most s) c.in-Awaits.is w.standing in
          let holdings : c.put_held.new.self ≡ with_held s.holdings h (Some c.args.held) = c.put_held.ensures.value in
          let running = object_running b settings c.args.ticket blocks begun most s at.0 h c.args.held at.2 in
          let settled : HasSettled b.graph settings c.args.ticket b.reserved begun (stage_of b.graph b.reserved s) at.0 (with_holdings s (with_held s.holdings h (Some c.args.held))) c.resume.new.self =
          subst (λ (x : HoldingsState). HasSettled b.graph settings c.args.ticket b.reserved begun (stage_of b.graph b.reserved s) at.0 (with_holdings s x) c.resume.new.self) holdings
          (c.resume.ensures.settled settings begun (stage_of b.graph b.reserved s) at.0 dynamic
          (subst (λ (x : HoldingsState). IsRunning b.graph settings.size c.args.ticket.index at.0 (with_holdings s x)) (sym holdings) running)) in
          object_comes b settings c.args.ticket blocks begun most s at.0 h c.args.held c.resume.new.self c.in-Awaits.is at.1 at.2 settled;
    }
    )
