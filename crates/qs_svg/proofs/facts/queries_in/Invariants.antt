-- The queries before this place are counted.
use Rattle.std.proofs.Common.{◌≡◌, ◌≤◌, take}
use Rattle.qs_svg.specs.audit.Stretches as stretches
use Rattle.qs_svg.proofs.facts.queries_in.Given as goal

abbrev pub invariant-loop-entry : goal.invariant-loop-entry
invariant-loop-entry l = (l.count ≤ l.entry-index) × (l.count ≡ stretches.queries_in (take l.entry-index l.entries))
