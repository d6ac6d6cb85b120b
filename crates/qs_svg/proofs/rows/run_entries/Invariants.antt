-- What is left to run leads from where the object is to where it will be.
use Rattle.qs_svg.proofs.Common.{◌≡◌, drop, replay, without_tickets}
use Rattle.qs_svg.proofs.rows.run_entries.Given as goal

abbrev pub invariant-loop-entry : goal.invariant-loop-entry
invariant-loop-entry l =
    replay l.object (without_tickets (drop l.entry-index l.entries)) ≡ replay l.initial.object (without_tickets l.entries)
