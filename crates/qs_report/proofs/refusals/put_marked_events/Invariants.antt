-- What is there and the lines that are left make up the whole text.
use Rattle.std.proofs.Common.{◌≡◌, ◌++◌, drop}
use Rattle.qs_report.specs.audit.Report.{marked_lines}
use Rattle.qs_report.proofs.refusals.put_marked_events.Given as goal

abbrev pub invariant-loop-place : goal.invariant-loop-place
invariant-loop-place l =
    l.out.items ++ marked_lines l.program (drop l.place l.trace) (drop l.place l.fates) ≡ l.initial.out.items ++ marked_lines l.program l.trace l.fates
