use Rattle.std.proofs.Common.{◌≡◌, ◌<◌, ℕ, get_or, length}
use Rattle.qs_standings.specs.Rows.{named_before}
use Rattle.qs_standings.proofs.rows.row_starts.Given as goal

abbrev pub invariant-loop-client : goal.invariant-loop-client
invariant-loop-client l = record {
  count : length l.starts.items ≡ l.client;
  each : (c : ℕ) → c < l.client → get_or l.starts.items c 0 ≡ named_before l.program 0 c;
}
