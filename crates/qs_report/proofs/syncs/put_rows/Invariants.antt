-- The objects before this one are there.
use Rattle.std.proofs.Common.{◌≡◌, ◌++◌}
use Rattle.qs_text.specs.audit.Texts.{texts_up_to}
use Rattle.qs_report.specs.SyncsText.{row_line}
use Rattle.qs_report.proofs.syncs.put_rows.Given as goal

abbrev pub invariant-loop-index : goal.invariant-loop-index
invariant-loop-index l = l.out.items ≡ l.initial.out.items ++ texts_up_to l.index (row_line l.program l.table l.place)
