use Rattle.std.proofs.Common.{◌≡◌, length}
use Rattle.qs_outcomes.specs.estimate.Estimates.{IsRow}
use Rattle.qs_outcomes.proofs.estimate.ways.insertions.Given as goal

abbrev pub invariant-loop : goal.invariant-loop
invariant-loop l = record { row : IsRow l.counter l.row; long : length l.row ≡ 449 }
