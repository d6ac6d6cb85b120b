use Rattle.std.proofs.Common.{◌≡◌, drop}
use Rattle.qs_core.specs.parts.CoreHandlers.{CanEnterAll, with_ticket_at_all}
use Rattle.qs_core.proofs.core_machine.enter_all.Given as goal

abbrev pub invariant-loop-object : goal.invariant-loop-object
invariant-loop-object l = record {
  value : with_ticket_at_all l.ticket l.handlers.items (drop l.object-index l.objects) ≡ with_ticket_at_all l.ticket l.initial.handlers.items l.objects;
  can : CanEnterAll l.ticket l.handlers.items (drop l.object-index l.objects);
}
