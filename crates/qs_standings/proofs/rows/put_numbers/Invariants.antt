use Rattle.std.proofs.Common.{◌≡◌, ◌+◌, drop, length}
use Rattle.qs_standings.specs.Rows.{overwritten}
use Rattle.qs_standings.proofs.rows.put_numbers.Given as goal

abbrev pub invariant-loop-place : goal.invariant-loop-place
invariant-loop-place l = record {
  long : length l.row ≡ length l.initial.row;
  rest : overwritten l.row (l.first + l.place) (drop l.place l.numbers) ≡ overwritten l.initial.row l.first l.numbers;
}
