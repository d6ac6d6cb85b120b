use Rattle.std.proofs.Common.{◌≡◌, map}
use Rattle.std.specs.List.{range_with_len}
use Rattle.qs_text.specs.audit.fates.Fates.{fates_of}
use Rattle.qs_text.proofs.fates.journals.journal_fates.Given as goal

abbrev pub invariant-loop-object : goal.invariant-loop-object
invariant-loop-object l = l.rows.items ≡ map (fates_of l.program l.played) (range_with_len 0 l.object)
