use Rattle.qs_levels.proofs.Common.{◌≤◌, length, take, AreEven, AreKnown, IsTableOf, leads, tabled}
use Rattle.qs_levels.proofs.leading.led_on.Given as goal

abbrev pub invariant-loop-place : goal.invariant-loop-place
invariant-loop-place l = record {
  table : IsTableOf l.step.search.program.now l.step.search.front.now l.share.number l.share.count l.step.level.now.standings (leads l.step.search.program.now l.share.number l.share.count (take l.place l.step.level.now.standings)) (tabled l.table);
  small : length (tabled l.table).rows ≤ l.step.room;
  known : AreKnown l.step.search.program.now (tabled l.table).found;
  even : AreEven l.table;
}
