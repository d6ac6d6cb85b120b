-- How many of the ends before this place came.
use Rattle.std.proofs.Common.{◌≡◌, ◌≤◌}
use Rattle.qs_report.specs.TallyText.{came_up_to}
use Rattle.qs_report.proofs.tallies.came.Given as goal

abbrev pub invariant-loop-place : goal.invariant-loop-place
invariant-loop-place l = (l.came ≡ came_up_to l.place l.ends) × (l.came ≤ l.place)
