use Rattle.std.proofs.Common.{take}
use Rattle.qs_tally.proofs.Common.{AllByRecursion, AllZip, rows_in}
use Rattle.qs_tally.specs.Counting.{AreTabled, HasNotCome, IsSameEnd}
use Rattle.qs_tally.specs.Tallies.{standings_in}
use Rattle.qs_tally.proofs.count.list_all.Given as goal

abbrev pub invariant-loop-standing : goal.invariant-loop-standing
invariant-loop-standing l = record {
  tabled : AreTabled l.program (rows_in l.rows.keys) l.ends.items;
  same : AllZip (IsSameEnd l.program) (take l.standing-index l.found) (standings_in l.ends.items);
  none : AllByRecursion HasNotCome l.ends.items;
}
