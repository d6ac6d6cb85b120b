use Rattle.qs_levels.proofs.Common.{◌≡◌, length, AllByRecursion, IsSpot, level_in, rests_of}
use Rattle.qs_levels.proofs.Merged.{IsMerging, all_in, left_in}
use Rattle.qs_levels.proofs.merging.merged.Given as goal

abbrev pub invariant-loop-number : goal.invariant-loop-number
invariant-loop-number l = record {
  even : length l.places.items ≡ length l.parts.items;
  spots : AllByRecursion (IsSpot l.parts.items) l.spots.items;
  merging : IsMerging l.step.search.program.now l.step.search.front.now (length l.parts.items) l.step.level.now.standings (all_in l.parts.items) (rests_of l.places.items l.parts.items) (level_in l.parts.items l.spots.items).standings
      (level_in l.parts.items l.spots.items).going;
}

abbrev pub decreases-loop-number : goal.decreases-loop-number
decreases-loop-number l = left_in (rests_of l.places.items l.parts.items)
