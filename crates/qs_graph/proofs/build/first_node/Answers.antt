use Rattle.std.proofs.Common.{sym, ◌∙◌, ap, arith}
use Rattle.std.proofs.lemmas.Bool.Decides.{nat_tests}
use Rattle.qs_graph.specs.audit.Graphs.{first_node}
use Rattle.qs_graph.proofs.Counting.{first_some}
use Rattle.qs_graph.proofs.build.first_node.Goals as goal

pub returns-else-is_empty : goal.returns-else-is_empty
returns-else-is_empty c = record {
  value = sym (ap (first_node c.args.at c.args.next) c.as_slice.ensures.value
      ∙ first_some c.as_slice.result.now c.args.at c.args.next (grind (arith, nat_tests)));
}
