use Rattle.std.proofs.Common.{◌≡◌, map, take}
use Rattle.qs_objects.specs.declared.held.Ticket.{Ticket}
use Rattle.qs_client.specs.audit.ClientModel.{has_ended}
use Rattle.qs_core.specs.state.CoreState.{client_part_at}
use Rattle.qs_core.proofs.shown.core_showing.endings.Given as goal

abbrev pub invariant-loop-ticket : goal.invariant-loop-ticket
invariant-loop-ticket l = l.row.items ≡ map (λ (t : Ticket). has_ended (client_part_at l.clients t.client).mind.client t.index) (take l.ticket-index l.order)
