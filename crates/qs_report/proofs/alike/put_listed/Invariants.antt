-- The outcomes before this place are there.
use Rattle.std.proofs.Common.{◌≡◌, ◌++◌}
use Rattle.qs_report.specs.AlikeText.{alike_outcome_at}
use Rattle.qs_text.specs.audit.Texts.{texts_up_to}
use Rattle.qs_report.proofs.alike.put_listed.Given as goal

abbrev pub invariant-loop-place : goal.invariant-loop-place
invariant-loop-place l = l.out.items ≡ l.initial.out.items ++ texts_up_to l.place (alike_outcome_at l.program l.found l.counts)
