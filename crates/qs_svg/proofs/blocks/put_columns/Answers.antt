use Rattle.qs_svg.specs.audit.Blocks.{column}
use Rattle.qs_svg.proofs.Parts.{one_place_more}
use Rattle.qs_svg.proofs.blocks.put_columns.Goals as goal

pub loop-column-preserved : goal.loop-column-preserved
loop-column-preserved c =
    one_place_more (column c.args.program.now c.args.played.now c.args.layout) c.loop-column.column c.loop-column.invariant
    c.in_ok-put_column.ensures.ok
