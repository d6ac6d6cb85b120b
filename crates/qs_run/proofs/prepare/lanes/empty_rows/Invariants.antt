-- The rows so far have no end in them, and there is room for the rest.
use Rattle.std.proofs.Common.{◌≡◌, ℕ, ◌≤◌, None, length}
use Rattle.std.specs.Prelude.{vec_capacity}
use Rattle.qs_run.specs.Prepared.{lane_end_at}
use Rattle.qs_run.proofs.prepare.lanes.empty_rows.Given as goal

abbrev pub invariant-loop-row : goal.invariant-loop-row
invariant-loop-row g l = record {
  many : length l.rows.items ≡ l._row;
  room : l.count ≤ vec_capacity l.rows;
  none : (row place : ℕ) → lane_end_at l.rows.items row place ≡ None;
}
