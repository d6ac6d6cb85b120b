-- With the lines of the clients that are left, all lines are there.
use Rattle.qs_dot.proofs.Common.{◌≡◌, ◌++◌, drop, clients_nodes, script_nodes, template_nodes}
use Rattle.qs_dot.proofs.node_lines.lines.lines_of_clients.Given as goal

abbrev pub invariant-loop-item : goal.invariant-loop-item
invariant-loop-item l =
    l.clients.items ++ clients_nodes (template_nodes l.entries l.items) l.rest (drop l.item-index l.items) ≡ script_nodes l.entries l.items
