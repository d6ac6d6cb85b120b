-- The graph of a block: node 0 is Entry, then come the nodes of its statements in text order, and Exit is last.
use Rattle.std.specs.Prelude.{ℕ, ◌+◌, List, [], ◌∷◌, ◌++◌}
use Rattle.qs_program.specs.audit.Statements.{Statements, end, command, query, assign, choose, again, leave}
use Rattle.qs_graph.specs.declared.node.Node.TheVariants.{Entry, Local, Branch, Sync, Query, Call}
use Rattle.qs_graph.specs.declared.node.Action.TheVariants.{Assign, SetCount, Nothing}
use Rattle.qs_graph.specs.declared.node.Choice.TheVariants.{If, Repeat}
use Rattle.qs_graph.specs.audit.Nodes.{GraphNode, to, to_either, exit}

-- how many nodes statements have
abbrev pub node_count : Statements → ℕ
node_count end = 0
node_count (command c rest) = 1 + node_count rest
node_count (query x c rest) = 2 + node_count rest
node_count (assign x e rest) = 1 + node_count rest
node_count (choose t has_else first other rest) = 1 + node_count first + node_count other + node_count rest
node_count (again n body rest) = 2 + node_count body + node_count rest
node_count (leave rest) = 1 + node_count rest

-- the first node of statements that are numbered from `at`: where there are none, the one that comes next
abbrev pub first_node : (at next : ℕ) → Statements → ℕ
first_node at next end = next
first_node at next _ = at

-- the places of statements that are numbered from `at`, where `next` comes after them and a `leave` goes to `out`
abbrev pub places_of : (at next out : ℕ) → Statements → List GraphNode
places_of at next out end = []
places_of at next out (assign x e rest) =
    to (Local (Assign x e)) (first_node (at + 1) next rest) ∷ places_of (at + 1) next out rest
places_of at next out (command c rest) =
    to (Call c) (first_node (at + 1) next rest) ∷ places_of (at + 1) next out rest
places_of at next out (query x c rest) =
    to (Sync c.object) (at + 1) ∷ to (Query x c) (first_node (at + 2) next rest) ∷ places_of (at + 2) next out rest
places_of at next out (choose t has_else first other rest) =
    let at_other = at + 1 + node_count first in
    let at_rest = at_other + node_count other in
    let after = first_node at_rest next rest in
    to_either (Branch (If t)) (first_node (at + 1) after first) (first_node at_other after other)
    ∷ (places_of (at + 1) after out first ++ (places_of at_other after out other ++ places_of at_rest next out rest))
places_of at next out (again n body rest) =
    let at_rest = at + 2 + node_count body in
    let after = first_node at_rest next rest in
    to (Local (SetCount n)) (at + 1)
    ∷ to_either (Branch Repeat) (first_node (at + 2) (at + 1) body) after
    ∷ (places_of (at + 2) (at + 1) after body ++ places_of at_rest next out rest)
places_of at next out (leave rest) = to (Local Nothing) out ∷ places_of (at + 1) next out rest

abbrev pub block_graph : Statements → List GraphNode
block_graph body =
    let last = 1 + node_count body in
    to Entry (first_node 1 last body) ∷ (places_of 1 last last body ++ exit ∷ [])
