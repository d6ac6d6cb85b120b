-- The ends before this place are there.
use Rattle.std.proofs.Common.{◌≡◌, ◌++◌}
use Rattle.qs_report.specs.TallyText.{counted_text_at}
use Rattle.qs_text.specs.audit.Texts.{texts_up_to}
use Rattle.qs_report.proofs.tallies.put_ends.Given as goal

abbrev pub invariant-loop-place : goal.invariant-loop-place
invariant-loop-place l = l.out.items ≡ l.initial.out.items ++ texts_up_to l.place (counted_text_at l.program l.listed l.ends)
