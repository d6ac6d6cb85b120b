use Rattle.std.proofs.Common.{ap}
use Rattle.qs_queue.specs.declared.rule.Known.{Known}
use Rattle.qs_queue.proofs.Steps.{begins, opens}
use Rattle.qs_queue.proofs.queue_ends.make_ends.Goals as goal

pub ruled-requires-clause-rule : goal.ruled-requires-clause-rule
ruled-requires-clause-rule g c = let f = g.P.Protocol in begins f.good f.none f.front f.unset

pub another-theirs-requires-clause-rule : goal.another-theirs-requires-clause-rule
another-theirs-requires-clause-rule g c =
    let f = g.P.Protocol in
    opens f.good f.none f.front g.N.Key.key _ _ (ap (λ (v : Known g.row.T.Denot g.row.K.Denot). v.opens) c.in_ok-queue.ensures.3)
