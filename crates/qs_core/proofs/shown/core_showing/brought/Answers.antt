use Rattle.std.proofs.Common.{ap}
use Rattle.qs_core_laws.specs.audit.CoreSchedule.{held_or_none}
use Rattle.qs_core.proofs.shown.CoreShowing.{object_here}
use Rattle.qs_core.proofs.shown.core_showing.brought.Goals as goal

pub returns-then-takes_ticket : goal.returns-then-takes_ticket
returns-then-takes_ticket c = record {
  value = ap held_or_none (object_here c.args.clients.now c.args.number c.args.handler c.into_held.result c.into_held.ensures.held);
}
