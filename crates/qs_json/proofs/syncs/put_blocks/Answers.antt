use Rattle.qs_json.specs.SyncsJson.{block_json}
use Rattle.qs_text.proofs.Parts.{one_text_more}
use Rattle.qs_json.proofs.syncs.put_blocks.Goals as goal

pub loop-place-preserved : goal.loop-place-preserved
loop-place-preserved c =
    one_text_more (block_json c.args.program.now c.args.table.now) c.loop-place.place c.loop-place.invariant c.in_ok-put_block.ensures.ok
