use Rattle.qs_text.proofs.Parts.{last, then}
use Rattle.qs_svg.proofs.blocks.put_line.Goals as goal

pub returns : goal.returns
returns c =
    let corner = rw (c.column_edge-x.ensures.edge, c.row_edge-y.ensures.edge) at c.in_ok-put_path.ensures.ok in
    record {
      ok = last _ _ _ (then corner (rw c.height.ensures.height at c.in_ok-put_count.ensures.ok))
          (last _ _ _ (then c.in_ok-put_word.ensures.ok c.in_ok-put_block_words.ensures.ok) c.put_word-2.ensures.ok);
    }
