-- The template is the first of its name among the items that are left.
use Rattle.qs_dot.proofs.Common.{◌≡◌, drop, template_nodes}
use Rattle.qs_dot.proofs.node_lines.lines.lines_of_template.Given as goal

abbrev pub invariant-loop-item : goal.invariant-loop-item
invariant-loop-item l = template_nodes l.rest (drop l.item-index l.items) l.name ≡ template_nodes l.entries l.items l.name
