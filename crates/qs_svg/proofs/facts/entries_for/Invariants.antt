-- The entries of the ticket before this place are counted.
use Rattle.std.proofs.Common.{◌≡◌, ◌≤◌, take}
use Rattle.qs_svg.specs.audit.Stretches as stretches
use Rattle.qs_svg.proofs.facts.entries_for.Given as goal

abbrev pub invariant-loop-entry : goal.invariant-loop-entry
invariant-loop-entry l = (l.count ≤ l.entry-index) × (l.count ≡ stretches.entries_for l.ticket (take l.entry-index l.journal))
