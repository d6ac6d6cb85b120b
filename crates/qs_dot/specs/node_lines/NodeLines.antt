-- The line of each node of a script's graphs: that of the first anchor of its statement. The first definitions take an
-- entry for each anchor from the first one of a part on, in text order, and give each node the entry of its anchor:
-- entries may be lines, or numbers.
use Rattle.std.specs.Prelude.{ℕ, ◌+◌, false, true, if◌then◌else◌, List, [], ◌∷◌, ◌++◌, length, drop, slice_index_or}
use Rattle.qs_script.specs.declared.tree.tree.Block.{Block}
use Rattle.qs_script.specs.declared.tree.tree.Item.{Item}
use Rattle.qs_script.specs.declared.tree.tree.Item.TheVariants.{Object, Client, Template, Started}
use Rattle.qs_script.specs.audit.tree.Tree.{Stmts, end, command, query, assign, choose, choose_else, again, leave}
use Rattle.qs_program.specs.audit.Numbering.{Name, same_name}
use Rattle.qs_check.specs.anchors.Anchors.{call_anchors, expr_anchors, test_anchors, anchors, block_anchors, item_anchors}
use Rattle.qs_dot.specs.node_lines.AnchorLines.{anchor_lines}

-- the entry of the first anchor
abbrev pub first_entry : List ℕ → ℕ
first_entry es = slice_index_or es 0 0

-- how many anchors statements have
abbrev pub anchor_count : Stmts → ℕ
anchor_count s = length (anchors false s)

-- the nodes of statements in the order of the graph: two of a query, which are its synchronisation and the query, and
-- two of a repeat, which are its beginning and its branch
abbrev pub statement_nodes : List ℕ → Stmts → List ℕ
statement_nodes es end = []
statement_nodes es (command c rest) = first_entry es ∷ statement_nodes (drop (length (call_anchors false c)) es) rest
statement_nodes es (query x c rest) =
    first_entry es ∷ first_entry es ∷ statement_nodes (drop (1 + length (call_anchors true c)) es) rest
statement_nodes es (assign x e rest) = first_entry es ∷ statement_nodes (drop (1 + length (expr_anchors e)) es) rest
statement_nodes es (choose t first rest) =
    let inside = drop (length (test_anchors t)) es in
    first_entry es ∷ (statement_nodes inside first ++ statement_nodes (drop (anchor_count first) inside) rest)
statement_nodes es (choose_else t first other rest) =
    let inside = drop (length (test_anchors t)) es in
    let otherwise = drop (anchor_count first) inside in
    first_entry es
    ∷ (statement_nodes inside first ++ (statement_nodes otherwise other
    ++ statement_nodes (drop (anchor_count other) otherwise) rest))
statement_nodes es (again n body rest) =
    let inside = drop 1 es in
    first_entry es ∷ first_entry es ∷ (statement_nodes inside body
    ++ statement_nodes (drop (anchor_count body) inside) rest)
statement_nodes es (leave rest) = first_entry es ∷ statement_nodes (drop 1 es) rest

-- the nodes of a block but the last, Exit, which has no anchor: Entry, which has that of `separate`, and those of the
-- statements
abbrev pub block_nodes : List ℕ → Block → List ℕ
block_nodes es b = first_entry es ∷ statement_nodes (drop (1 + length b.reserved) es) b.body

abbrev pub blocks_nodes : List ℕ → List Block → List (List ℕ)
blocks_nodes es [] = []
blocks_nodes es (b ∷ bs) = block_nodes es b ∷ blocks_nodes (drop (length (block_anchors b)) es) bs

-- the blocks of the first template of a name; none, where there is no such template
abbrev pub template_nodes : List ℕ → List Item → Name → List (List ℕ)
template_nodes es [] n = []
template_nodes es (Object o ∷ is) n = template_nodes (drop (length (item_anchors (Object o))) es) is n
template_nodes es (Client c ∷ is) n = template_nodes (drop (length (item_anchors (Client c))) es) is n
template_nodes es (Template t ∷ is) n =
    if same_name n t.name then blocks_nodes (drop (1 + length t.formals) es) t.blocks
    else template_nodes (drop (length (item_anchors (Template t))) es) is n
template_nodes es (Started c ∷ is) n = template_nodes (drop (length (item_anchors (Started c))) es) is n

-- the client that an item is, if it is one, where `templates` tells the blocks of the template of a name
abbrev pub client_in : (templates : Name → List (List ℕ)) → List ℕ → Item → List (List (List ℕ))
client_in templates es (Object o) = []
client_in templates es (Client c) = blocks_nodes (drop 1 es) c.blocks ∷ []
client_in templates es (Template t) = []
client_in templates es (Started c) = templates c.template ∷ []

abbrev pub clients_nodes : (templates : Name → List (List ℕ)) → List ℕ → List Item → List (List (List ℕ))
clients_nodes templates es [] = []
clients_nodes templates es (i ∷ is) =
    client_in templates es i ++ clients_nodes templates (drop (length (item_anchors i)) es) is

-- for each client of a script, each of its blocks and each node of the block's graph but Exit, the entry of the node's
-- anchor; a client that is started with a template has those of the template's text
abbrev pub script_nodes : List ℕ → List Item → List (List (List ℕ))
script_nodes es items = clients_nodes (template_nodes es items) es items

-- the line of each node of a text's script
abbrev pub node_lines : List ℕ → List Item → List (List (List ℕ))
node_lines text items = script_nodes (anchor_lines text) items

-- the lines of block k of client c
abbrev pub lines_of_block : List (List (List ℕ)) → (c k : ℕ) → List ℕ
lines_of_block lines c k = slice_index_or (slice_index_or lines c []) k []
