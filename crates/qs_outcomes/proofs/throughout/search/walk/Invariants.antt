use Rattle.std.proofs.Common.{◌≤◌, ◌+◌, ◌-◌, length}
use Rattle.qs_standings.specs.Rows.{rows_in}
use Rattle.qs_outcomes.specs.Searches.{HasWalkedIn}
use Rattle.qs_outcomes.proofs.throughout.search.walk.Given as goal

abbrev pub invariant-loop-standing : goal.invariant-loop-standing
invariant-loop-standing g l = record {
  walked : HasWalkedIn l.search (g.Q.Question.asked l.question l.search.program.now) (rows_in l.state.rows.keys) l.state.waiting.items;
  small : length (rows_in l.state.rows.keys) ≤ l.search.limit;
}

abbrev pub decreases-loop-standing : goal.decreases-loop-standing
decreases-loop-standing g l = (l.search.limit - length (rows_in l.state.rows.keys)) + length l.state.waiting.items
