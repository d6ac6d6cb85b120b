use Rattle.std.proofs.Common.{ap, subst, sym, ◌∙◌, IfOk}
use Rattle.qs_standings.proofs.Common.{IsLegal, order_of}
use Rattle.qs_standings.specs.Standings.{IsFirst}
use Rattle.qs_standings.proofs.Fronts.{named_by_clients}
use Rattle.qs_standings.proofs.front.standing_after.Goals as goal

pub placed-requires : goal.placed-requires
placed-requires c = record {
  legal = subst (IsLegal c.args.program.now) (sym (ap order_of (c.as_slice.ensures.value ∙ c.in_ok-clients.ensures.clients) ∙ named_by_clients c.args.program.now c.args.order.now c.requires.legal)) c.requires.legal;
}

pub returns : goal.returns
returns c = record {
  first = subst (λ order. IfOk c.placed.result (IsFirst c.args.program.now order))
      (ap order_of (c.as_slice.ensures.value ∙ c.in_ok-clients.ensures.clients) ∙ named_by_clients c.args.program.now c.args.order.now c.requires.legal) c.placed.ensures.first;
}
