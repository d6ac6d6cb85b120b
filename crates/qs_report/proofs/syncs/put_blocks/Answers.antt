use Rattle.qs_text.proofs.Joined.{one_place_more}
use Rattle.qs_report.specs.SyncsText.{block_rows}
use Rattle.qs_report.proofs.syncs.put_blocks.Goals as goal

pub loop-place-preserved : goal.loop-place-preserved
loop-place-preserved c =
    one_place_more (block_rows c.args.program.now c.args.table.now) c.loop-place.place _ _ _ c.loop-place.invariant c.in_ok-put_block.ensures.ok
