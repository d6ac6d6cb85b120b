use Rattle.std.proofs.Common.{◌≡◌, ◌≤◌, ◌*◌}
use Rattle.qs_standings.specs.Rows.{named_before}
use Rattle.qs_standings.proofs.rows.named_at.Given as goal

abbrev pub invariant-loop-before : goal.invariant-loop-before
invariant-loop-before l = record {
  place : l.place ≡ named_before l.program 0 l.before;
  few : l.place ≤ 16 * l.before;
}
