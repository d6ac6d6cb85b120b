use Rattle.std.proofs.lemmas.Result.{on_ok_weaker}
use Rattle.qs_text.proofs.BlockTexts.{block_added}
use Rattle.qs_text.proofs.blocks.put_block.Goals as goal

pub returns : goal.returns
returns g c =
    let p = c.args.program.now in
    let w = c.args.writer.now in
    let client = c.args.ticket.client in
    let block = c.args.ticket.index in
    record {
      ok = on_ok_weaker c.put_nodes.result
          (block_added p client block (g.W.BlockWriter.head w p client block) (g.W.BlockWriter.nodes w p client block) _ _ _ c.args.out.now.items _ _
          c.reserved_by.ensures.value c.in_ok-graph.ensures.graph_of c.in_ok-sets.ensures.sets c.in_ok-put_head.ensures.ok)
          c.put_nodes.ensures.ok;
    }
