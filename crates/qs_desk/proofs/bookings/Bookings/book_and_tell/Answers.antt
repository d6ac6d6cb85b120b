use Rattle.std.proofs.Common.{ap, sym, subst, ◌∙◌, ◌∷◌, ◌++◌, [], Bool, List, ℕ, arith}
use Rattle.qs_objects.specs.declared.held.Ticket.{Ticket}
use Rattle.qs_desk.specs.Desks.{IsDesk}
use Rattle.qs_desk.specs.TicketQueues.{queue_at, with_ticket}
use Rattle.qs_desk.specs.Views.{DeskView}
use Rattle.qs_desk.proofs.Steps.{all_may_grow, room_left, desk_more}
use Rattle.qs_desk.proofs.bookings.Bookings.book_and_tell.Goals as goal

pub push_reserved-requires : goal.push_reserved-requires
push_reserved-requires g c =
    let d = c.self.inside in
    let shut = ap (λ (v : DeskView). v.closed) c.self.view_is ∙ c.requires.unclosed in
    let is = subst (λ b. IsDesk g.D.DeskName.program g.D.DeskName.queues d.history.items b d.senders.items d.books) shut c.self.invariant.0 in
    let room = room_left _ _ _ _ _ is _ _ c.count.ensures.place c.count.ensures.before c.requires.left in
    let long = c.self.invariant.2 in
    omega (arith, room, d.history.ok.0, long)

pub push_ticket-reserved-requires-clause-room : goal.push_ticket-reserved-requires-clause-room
push_ticket-reserved-requires-clause-room g c =
    let d = c.self.inside in
    let shut = ap (λ (v : DeskView). v.closed) c.self.view_is ∙ c.requires.unclosed in
    let is = subst (λ b. IsDesk g.D.DeskName.program g.D.DeskName.queues d.history.items b d.senders.items d.books) shut c.self.invariant.0 in
    all_may_grow _ _ _ _ _ is c.next-ticket.result

pub invariant_of-self : goal.invariant_of-self
invariant_of-self g c =
    let d = c.self.inside in
    let p = g.D.DeskName.program in
    let names = g.D.DeskName.queues in
    let shut = ap (λ (v : DeskView). v.closed) c.self.view_is ∙ c.requires.unclosed in
    let is = subst (λ b. IsDesk p names d.history.items b d.senders.items d.books) shut c.self.invariant.0 in
    let n = c.count.ensures in
    let grew = c.push_ticket-reserved.ensures.grown in
    let tick = c.next-ticket.ensures.ticket in
    let senders = c.push_ticket-reserved.new.senders.items in
    let more = desk_more p names d.history.items d.senders.items d.books is _ _ n.place n.before c.requires.left senders c.push_ticket-reserved.ensures.len
    (λ h less. grew h less ∙ ap (λ u. with_ticket p u h (queue_at d.senders.items h)) tick) in
    let longer = c.push_reserved.ensures.items ∙ ap (λ u. d.history.items ++ u ∷ []) tick in
    let long = c.self.invariant.2 in (
      subst (λ (x : List Ticket × Bool × List ℕ). IsDesk p names x.0 x.1 senders x.2) (λ i. (sym longer i, sym shut i, sym n.books i)) more,
      c.self.invariant.1,
      omega (arith, c.push_reserved.ensures.capacity, long),
    )
