use Rattle.std.proofs.Common.{ap, sym, subst, ◌++◌, ◌∷◌, []}
use Rattle.qs_queue.specs.declared.rule.Known.{Known}
use Rattle.qs_queue.specs.Views.{SenderView}
use Rattle.qs_queue.proofs.Steps.{sends, sends_full}
use Rattle.qs_queue.proofs.queue_ends.Sender.try_send.Goals as goal

pub push_as-requires-clause-rule : goal.push_as-requires-clause-rule
push_as-requires-clause-rule g c =
    let i = c.self.invariant.1 in
    let f = g.P.Protocol in
    let shut = ap (λ (v : Known g.row.T.Denot g.row.K.Denot). v.opens) i in
    let may = ap (λ (v : Known g.row.T.Denot g.row.K.Denot). v.sends) i in
    let good = subst (λ (o : SenderView g.row.T.Denot g.row.K.Denot). f.good o.key (o.sent ++ c.args.value ∷ [])) (sym c.self.view_is) c.requires.good in
    (sends f.good f.none f.front _ _ _ _ shut may (ap (λ (v : Known g.row.T.Denot g.row.K.Denot). v.takes) i) good, sends_full f.good f.none f.front _ _ shut may)
