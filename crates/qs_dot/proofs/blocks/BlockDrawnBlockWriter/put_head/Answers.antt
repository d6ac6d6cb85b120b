use Rattle.qs_dot.proofs.Common.{append_assoc, rules, IfOk-equal}
use Rattle.qs_dot.proofs.blocks.BlockDrawnBlockWriter.put_head.Goals as goal

pub returns : goal.returns
returns c = search (rules, IfOk-equal, append_assoc, c.client_name.ensures.name)
