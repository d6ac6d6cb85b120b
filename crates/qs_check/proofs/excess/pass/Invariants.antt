-- The blocks of the clients before this one are counted, and keep the limit.
use Rattle.std.proofs.Common.{◌≡◌, ◌≤◌, take}
use Rattle.qs_check.specs.Excess.{counted_in, limit_by}
use Rattle.qs_check.proofs.excess.pass.Given as goal

abbrev pub invariant-loop-client : goal.invariant-loop-client
invariant-loop-client l = record {
  total : l.total ≡ counted_in l.measure (take l.client l.clients);
  keeps : l.total ≤ limit_by l.measure;
}
