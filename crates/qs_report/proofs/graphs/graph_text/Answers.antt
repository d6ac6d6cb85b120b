use Rattle.qs_text.proofs.Added.{added_first}
use Rattle.qs_text.specs.Blocks.{AreBlocks}
use Rattle.qs_report.specs.GraphText.{IsBlockText, IsGraphText}
use Rattle.qs_report.proofs.graphs.graph_text.Goals as goal

pub returns : goal.returns
unfolding IsGraphText
returns c =
    let p = c.args.program.now in
    record { text = added_first (AreBlocks p (IsBlockText p)) _ _ c.new-out.ensures.items c.in_ok-put_blocks.ensures.ok }
