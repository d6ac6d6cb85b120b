use Rattle.qs_levels.proofs.Common.{◌≤◌, ◌+◌, ◌-◌, length, IsSearched, AreGoing}
use Rattle.qs_levels.proofs.search.search_from.Given as goal

abbrev pub invariant-levels : goal.invariant-levels
invariant-levels g l = record {
  searched : IsSearched l.search.program.now l.search.front.now l.level.standings l.next.standings l.noted;
  going : AreGoing l.search.program.now l.threads l.next.standings l.next.going;
  small : l.noted + length l.next.standings ≤ l.limit;
}

abbrev pub decreases-levels : goal.decreases-levels
decreases-levels g l = l.limit - l.noted
