use Rattle.std.proofs.Common.{◌≡◌, map, take}
use Rattle.qs_objects.specs.declared.held.Ticket.{Ticket}
use Rattle.qs_plain_laws.specs.audit.PlainSchedule.{has_ended}
use Rattle.qs_plain.specs.client.Clients.{client_of_state, client_state_at}
use Rattle.qs_plain.proofs.showing.endings.Given as goal

abbrev pub invariant-loop-ticket : goal.invariant-loop-ticket
invariant-loop-ticket l = l.row.items ≡ map (λ (t : Ticket). has_ended (client_of_state (client_state_at l.clients t.client)) t.index) (take l.ticket-index l.order)
