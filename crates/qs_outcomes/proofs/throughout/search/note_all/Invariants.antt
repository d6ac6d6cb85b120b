use Rattle.std.proofs.Common.{◌≡◌, ◌+◌, length}
use Rattle.qs_standings.specs.Rows.{drafted, rows_in}
use Rattle.qs_outcomes.specs.Searches.{IsGoingOnIn, IsWrittenIn}
use Rattle.qs_outcomes.proofs.throughout.search.note_all.Given as goal

abbrev pub invariant-loop-client : goal.invariant-loop-client
invariant-loop-client g l = record {
  going : IsGoingOnIn l.search (g.Q.Question.asked l.question l.search.program.now) (rows_in l.state.rows.keys) l.standing l.client l.state.waiting.items;
  written : IsWrittenIn l.search l.standing (drafted l.state.scratch.base) l.state.scratch.copy;
  kept : length (rows_in l.state.rows.keys) + length l.initial.state.waiting.items ≡ length (rows_in l.initial.state.rows.keys) + length l.state.waiting.items;
}
