use Rattle.qs_json.specs.SyncsJson.{row_json}
use Rattle.qs_json.proofs.Elements.{one_element_more}
use Rattle.qs_json.proofs.syncs.put_elements.Goals as goal

pub loop-index-preserved : goal.loop-index-preserved
loop-index-preserved c =
    one_element_more (row_json c.args.program.now c.args.table.now c.args.place) c.loop-index.index c.loop-index.invariant c.in_ok-put_comma.ensures.ok
    c.in_ok-put_row.ensures.ok
