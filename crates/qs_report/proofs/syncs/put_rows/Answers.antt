use Rattle.qs_text.proofs.Joined.{one_place_more}
use Rattle.qs_report.specs.SyncsText.{row_line}
use Rattle.qs_report.proofs.syncs.put_rows.Goals as goal

pub loop-index-preserved : goal.loop-index-preserved
loop-index-preserved c =
    one_place_more (row_line c.args.program.now c.args.table.now c.args.place) c.loop-index.index _ _ _ c.loop-index.invariant c.in_ok-put_row.ensures.ok
