-- It is the most that a block has at an object before this one.
use Rattle.std.proofs.Common.{◌≡◌}
use Rattle.qs_svg.specs.audit.Stretches as stretches
use Rattle.qs_svg.proofs.facts.longest.Given as goal

abbrev pub invariant-loop-object : goal.invariant-loop-object
invariant-loop-object l = l.most ≡ stretches.greatest_up_to l.object (stretches.longest_at l.played)
