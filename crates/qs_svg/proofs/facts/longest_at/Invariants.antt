-- It is the most that a block before this column has.
use Rattle.std.proofs.Common.{◌≡◌}
use Rattle.qs_svg.specs.audit.Stretches as stretches
use Rattle.qs_svg.proofs.facts.longest_at.Given as goal

abbrev pub invariant-loop-column : goal.invariant-loop-column
invariant-loop-column l =
    l.most ≡ stretches.greatest_up_to l.column (λ i. stretches.entries_for (stretches.ticket_at l.played i) (stretches.journal_of l.played l.object))
