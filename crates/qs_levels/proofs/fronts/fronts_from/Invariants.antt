use Rattle.qs_levels.proofs.Common.{◌≤◌, length, IsLevel, HasMoreFronts, AreGoing}
use Rattle.qs_levels.proofs.fronts.fronts_from.Given as goal

abbrev pub invariant-loop-done : goal.invariant-loop-done
invariant-loop-done l = record {
  level : IsLevel l.program l.front l.done l.level.standings;
  going : AreGoing l.program 1 l.level.standings l.level.going;
  small : length l.level.standings ≤ l.limit;
  few : HasMoreFronts l.program l.front l.done l.limit → ⊥;
}
