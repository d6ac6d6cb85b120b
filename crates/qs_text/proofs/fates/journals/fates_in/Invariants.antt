use Rattle.std.proofs.Common.{◌≡◌, ◌++◌, drop}
use Rattle.qs_text.specs.audit.fates.Fates.{fates_from}
use Rattle.qs_text.proofs.fates.journals.fates_in.Given as goal

abbrev pub invariant-loop-entry : goal.invariant-loop-entry
invariant-loop-entry l = l.fates.items ++ fates_from l.state (drop l.entry-index l.journal) ≡ fates_from l.fn.state l.journal
