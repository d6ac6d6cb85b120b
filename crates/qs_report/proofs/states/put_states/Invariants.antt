-- The objects before this place are there.
use Rattle.std.proofs.Common.{◌≡◌, ◌++◌}
use Rattle.qs_text.specs.audit.Texts.{texts_up_to}
use Rattle.qs_report.specs.audit.Report.{object_text}
use Rattle.qs_report.proofs.states.put_states.Given as goal

abbrev pub invariant-loop-place : goal.invariant-loop-place
invariant-loop-place l = l.out.items ≡ l.initial.out.items ++ texts_up_to l.place (object_text l.program l.played)
