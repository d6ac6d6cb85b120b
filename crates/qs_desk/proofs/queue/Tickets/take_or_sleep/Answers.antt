use Rattle.std.proofs.Common.{subst, ◌++◌, ◌∷◌, []}
use Rattle.qs_desk.specs.Tickets.{IsFor, AreFor}
use Rattle.qs_desk.specs.Views.{TicketsView}
use Rattle.qs_desk.specs.declared.queue.QueueOwner.{QueueOwner}
use Rattle.qs_desk.proofs.Pushing.{for_last}
use Rattle.qs_desk.proofs.queue.Tickets.take_or_sleep.Goals as goal

pub returns-clause-reserved : goal.returns-clause-reserved
returns-clause-reserved g c =
    let t = c.self.inside in
    let p = g.D.DeskName.program in
    let are = subst (λ (w : QueueOwner). AreFor w.program w.handler (t.end.received ++ c.take_or_sleep.result ∷ [])) c.self.invariant.1 c.take_or_sleep.ensures.good in
    subst (λ (v : TicketsView). IsFor p v.handler c.take_or_sleep.result) c.self.view_is (for_last p t.handler t.end.received c.take_or_sleep.result are)
