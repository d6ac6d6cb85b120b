use Rattle.qs_text.specs.Blocks.{IsBlockBy}
use Rattle.qs_text.proofs.Added.{one_added_more}
use Rattle.qs_text.proofs.blocks.put_blocks_of.Goals as goal

pub loop-block-preserved : goal.loop-block-preserved
loop-block-preserved g c =
    let p = c.args.program.now in
    let w = c.args.writer.now in
    one_added_more (IsBlockBy p (g.W.BlockWriter.head w p) (g.W.BlockWriter.nodes w p) c.args.client) c.loop-block.block _ _ _ c.loop-block.invariant c.in_ok-put_block.ensures.ok
