-- The tickets before this place are there.
use Rattle.qs_svg.proofs.Common.{texts_up_to, Puts, ticket_told}
use Rattle.qs_svg.proofs.head.put_tickets_told.Given as goal

abbrev pub invariant-loop-place : goal.invariant-loop-place
invariant-loop-place l = Puts (texts_up_to l.place (ticket_told l.program l.played)) l.initial.out.items l.out.items
