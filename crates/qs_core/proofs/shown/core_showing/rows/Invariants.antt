use Rattle.std.proofs.Common.{◌≡◌}
use Rattle.qs_core.specs.shown.CoreShown.{AreMinds, rows_by}
use Rattle.qs_core.proofs.shown.core_showing.rows.Given as goal

abbrev pub invariant-loop-client : goal.invariant-loop-client
invariant-loop-client l = record {
  rows : l.rows.items ≡ rows_by l.yielded;
  minds : AreMinds l.yielded;
}
