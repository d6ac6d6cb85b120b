use Rattle.qs_levels.proofs.Common.{◌≡◌, ◌≤◌, length, drafted, row_of, AreEven, AreKnown, IsLedUpTo, tabled}
use Rattle.qs_levels.proofs.leading.lead_standing.Given as goal

abbrev pub invariant-loop-client : goal.invariant-loop-client
invariant-loop-client l = record {
  led : IsLedUpTo l.step.search.program.now l.step.search.front.now l.fn.share.number l.fn.share.count l.source.standing.now l.source.place l.client (tabled l.initial.table) (tabled l.table);
  base : drafted l.scratch.base ≡ row_of l.step.search.program.now l.source.standing.now;
  small : length (tabled l.table).rows ≤ l.step.room;
  known : AreKnown l.step.search.program.now (tabled l.table).found;
  even : AreEven l.table;
}
