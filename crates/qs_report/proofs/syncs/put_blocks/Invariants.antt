-- The blocks before this place are there.
use Rattle.std.proofs.Common.{◌≡◌, ◌++◌}
use Rattle.qs_text.specs.audit.Texts.{texts_up_to}
use Rattle.qs_report.specs.SyncsText.{block_rows}
use Rattle.qs_report.proofs.syncs.put_blocks.Given as goal

abbrev pub invariant-loop-place : goal.invariant-loop-place
invariant-loop-place l = l.out.items ≡ l.initial.out.items ++ texts_up_to l.place (block_rows l.program l.table)
