use Rattle.qs_text.proofs.Added.{added_first}
use Rattle.qs_text.specs.Blocks.{AreBlocks}
use Rattle.qs_json.specs.GraphJson.{IsBlockJson, IsGraphJson}
use Rattle.qs_json.proofs.graphs.graph_json.Goals as goal

pub returns : goal.returns
unfolding IsGraphJson
returns c =
    let p = c.args.program.now in
    record { text = added_first (AreBlocks p (IsBlockJson p)) _ _ c.new-out.ensures.items c.in_ok-put_blocks.ensures.ok }
