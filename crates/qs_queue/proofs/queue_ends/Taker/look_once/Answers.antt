use Rattle.std.proofs.Common.{ap}
use Rattle.qs_queue.specs.declared.rule.Known.{Known}
use Rattle.qs_queue.proofs.Steps.{takes}
use Rattle.qs_queue.proofs.queue_ends.Taker.look_once.Goals as goal

pub try_pop_as-requires-clause-rule : goal.try_pop_as-requires-clause-rule
try_pop_as-requires-clause-rule g c =
    let i = c.self.invariant.1 in
    let f = g.P.Protocol in
    let shut = ap (λ (v : Known g.row.T.Denot g.row.K.Denot). v.opens) i in
    let may = ap (λ (v : Known g.row.T.Denot g.row.K.Denot). v.takes) i in
    takes f.good f.none f.front _ _ shut (ap (λ (v : Known g.row.T.Denot g.row.K.Denot). v.sends) i) may
