use Rattle.qs_svg.specs.audit.Blocks.{row}
use Rattle.qs_svg.proofs.Parts.{one_place_more}
use Rattle.qs_svg.proofs.run.put_rows.Goals as goal

pub loop-row-preserved : goal.loop-row-preserved
loop-row-preserved c =
    one_place_more (row c.args.program.now c.args.played.now c.args.layout) c.loop-row.row c.loop-row.invariant c.in_ok-put_row.ensures.ok
