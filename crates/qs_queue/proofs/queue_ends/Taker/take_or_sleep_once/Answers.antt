use Rattle.std.proofs.Common.{ap}
use Rattle.qs_queue.specs.declared.rule.Known.{Known}
use Rattle.qs_queue.proofs.Steps.{takes, takes_none}
use Rattle.qs_queue.proofs.queue_ends.Taker.take_or_sleep_once.Goals as goal

pub pop_as-requires-clause-rule : goal.pop_as-requires-clause-rule
pop_as-requires-clause-rule g c =
    let i = c.self.invariant.1 in
    let f = g.P.Protocol in
    let shut = ap (λ (v : Known g.row.T.Denot g.row.K.Denot). v.opens) i in
    let may = ap (λ (v : Known g.row.T.Denot g.row.K.Denot). v.takes) i in
    (takes f.good f.none f.front _ _ shut (ap (λ (v : Known g.row.T.Denot g.row.K.Denot). v.sends) i) may, takes_none f.good f.none f.front _ _ shut may)
