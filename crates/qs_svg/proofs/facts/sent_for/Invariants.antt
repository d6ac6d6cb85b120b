-- None of the objects before this place is the one that is asked for.
use Rattle.std.proofs.Common.{◌≡◌, drop}
use Rattle.qs_svg.specs.audit.Stretches as stretches
use Rattle.qs_svg.proofs.facts.sent_for.Given as goal

abbrev pub invariant-loop-number : goal.invariant-loop-number
invariant-loop-number l =
    stretches.sent_for l.object (drop l.number (stretches.syncs_at l.played l.place)) ≡ stretches.sent_for l.object (stretches.syncs_at l.played l.place)
