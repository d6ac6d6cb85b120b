-- The nodes before this number are there.
use Rattle.qs_text.specs.Blocks.{node_at}
use Rattle.qs_text.specs.audit.Texts.{texts_up_to}
use Rattle.qs_text.specs.Texts.{Puts}
use Rattle.qs_json.specs.audit.Pieces.{element}
use Rattle.qs_json.specs.GraphJson.{node_json}
use Rattle.qs_json.proofs.graphs.put_all_nodes.Given as goal

abbrev pub invariant-loop-n : goal.invariant-loop-n
invariant-loop-n l = Puts (texts_up_to l.n (element (node_at (node_json l.block.program.now l.block.ticket.client) l.block.reserved.now l.block.graph.now.nodes l.block.sets.now))) l.initial.out.items l.out.items
