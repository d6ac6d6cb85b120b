use Rattle.std.proofs.Common.{◌≡◌, ◌≤◌, None, length}
use Rattle.qs_standings.specs.Rows.{rows_in}
use Rattle.qs_outcomes.specs.Answers.{AreUnmet}
use Rattle.qs_outcomes.specs.Search.{work_left}
use Rattle.qs_outcomes.specs.Searches.{IsExploredIn}
use Rattle.qs_outcomes.proofs.depth.search_ends.Given as goal

abbrev pub invariant-loop-standing : goal.invariant-loop-standing
invariant-loop-standing g l = record {
  explored : IsExploredIn l.search (rows_in l.state.seen.keys) l.state.stack.items l.state.found.items;
  unmet : AreUnmet (g.Q.Question.asked l.question l.search.program.now) l.state.found.items;
  small : length (rows_in l.state.seen.keys) ≤ l.search.limit;
  none : l.state.witness ≡ None;
}

abbrev pub decreases-loop-standing : goal.decreases-loop-standing
decreases-loop-standing g l = work_left l.search.limit (rows_in l.state.seen.keys) l.state.stack.items
