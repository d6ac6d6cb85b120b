use Rattle.std.proofs.Common.{ap, subst, ◌∙◌}
use Rattle.qs_desk.specs.Desks.{IsDesk}
use Rattle.qs_desk.specs.Views.{DeskView}
use Rattle.qs_desk.proofs.Steps.{all_may_close, desk_closed}
use Rattle.qs_desk.proofs.bookings.Bookings.close.Goals as goal

pub push_closed-requires : goal.push_closed-requires
push_closed-requires g c =
    let d = c.self.inside in
    let shut = ap (λ (v : DeskView). v.closed) c.self.view_is ∙ c.requires.unclosed in
    let is = subst (λ b. IsDesk g.D.DeskName.program g.D.DeskName.queues d.history.items b d.senders.items d.books) shut c.self.invariant.0 in
    record { room = all_may_close _ _ _ _ _ is }

pub invariant_of-self : goal.invariant_of-self
invariant_of-self g c =
    let d = c.self.inside in
    let shut = ap (λ (v : DeskView). v.closed) c.self.view_is ∙ c.requires.unclosed in
    let is = subst (λ b. IsDesk g.D.DeskName.program g.D.DeskName.queues d.history.items b d.senders.items d.books) shut c.self.invariant.0 in
    (desk_closed _ _ _ _ _ is _ c.push_closed.ensures.len c.push_closed.ensures.closed, c.self.invariant.1, c.self.invariant.2)
