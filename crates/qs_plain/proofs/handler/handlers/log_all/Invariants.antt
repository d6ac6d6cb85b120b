use Rattle.std.proofs.Common.{◌≡◌, drop}
use Rattle.qs_plain.specs.handler.Handlers.{CanLogAll, logged_all}
use Rattle.qs_plain.proofs.handler.handlers.log_all.Given as goal

abbrev pub invariant-loop-object : goal.invariant-loop-object
invariant-loop-object l = record {
  value : logged_all l.ticket l.item l.handlers.items (drop l.object-index l.objects) ≡ logged_all l.ticket l.item l.initial.handlers.items l.objects;
  can : CanLogAll l.ticket l.handlers.items (drop l.object-index l.objects);
}
