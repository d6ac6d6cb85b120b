use Rattle.std.proofs.Common.{ap, ◌∙◌}
use Rattle.qs_queue.specs.declared.rule.Known.{Known}
use Rattle.qs_queue.proofs.Steps.{merges, agrees, forks}
use Rattle.qs_queue.proofs.queue_ends.Sender.agree.Goals as goal

pub absorb-requires-clause-rule : goal.absorb-requires-clause-rule
absorb-requires-clause-rule g c =
    let i = c.self.invariant.1 in
    let j = c.taker.invariant.1 in
    let f = g.P.Protocol in
    merges f.good f.none f.front f.unset _ _ _ _ (ap (λ (v : Known g.row.T.Denot g.row.K.Denot). v.opens) i) (ap (λ (v : Known g.row.T.Denot g.row.K.Denot). v.sends) i) (ap (λ (v : Known g.row.T.Denot g.row.K.Denot). v.takes) j)

pub learn_as-requires-clause-rule : goal.learn_as-requires-clause-rule
learn_as-requires-clause-rule g c =
    let i = c.absorb.ensures.rule in
    let f = g.P.Protocol in
    agrees f.good f.none f.front _ _ (ap (λ (v : Known g.row.T.Denot g.row.K.Denot). v.opens) i) (ap (λ (v : Known g.row.T.Denot g.row.K.Denot). v.sends) i) (ap (λ (v : Known g.row.T.Denot g.row.K.Denot). v.takes) i)

pub another-taker-requires-clause-rule : goal.another-taker-requires-clause-rule
another-taker-requires-clause-rule g c =
    let i = c.learn_as.ensures.queue.1 ∙ c.absorb.ensures.rule in
    let f = g.P.Protocol in
    forks f.good f.none f.front _ _ (ap (λ (v : Known g.row.T.Denot g.row.K.Denot). v.opens) i) (ap (λ (v : Known g.row.T.Denot g.row.K.Denot). v.sends) i) (ap (λ (v : Known g.row.T.Denot g.row.K.Denot). v.takes) i)
