-- Each block has as many lines as its graph has nodes but Exit. Both follow the block's tree, statement by statement;
-- for a client that is started with a template both take the first template of the name. By induction on the tree, the
-- blocks and the items.
use Rattle.qs_dot.proofs.Common.{◌≡◌, ◌<◌, ℕ, zero, suc, ◌+◌, Bool, true, false, if◌then◌else◌, List, [], ◌∷◌, ◌++◌, length, drop, get_or, map, Option, Some, refl, length-append, arith, length-map}
use Rattle.qs_dot.proofs.Common.{Block, Item, Object, Client, Template, Started, Name, same_name, ClientShape, no_block, no_client, own_in, exit, call_anchors, expr_anchors, test_anchors}
use Rattle.qs_dot.proofs.Common.{block_anchors, item_anchors, NodesHaveLines, anchor_count, blocks_nodes, clients_nodes, statement_nodes, template_nodes, rules}
use Rattle.qs_objects.specs.declared.object.Kind.{Kind}
use Rattle.qs_script.specs.audit.tree.Tree as tree
use Rattle.qs_script.specs.declared.tree.tree.ClientItem.{ClientItem}
use Rattle.qs_script.specs.declared.tree.tree.StartedItem.{StartedItem}
use Rattle.qs_script.specs.declared.tree.tree.TemplateItem.{TemplateItem}
use Rattle.qs_program.specs.audit.Statements.{Statements}
use Rattle.qs_program.specs.audit.Binding.{bound_block}
use Rattle.qs_check.specs.audit.resolution.Resolve.{as_client, binding_of, block_shape, body_of, client_shape, clients_of, declared_formals, kinds_of, names_of, own_client, started_of, template_called, templates_in}
use Rattle.qs_graph.specs.audit.Graphs.{block_graph, node_count, places_of}
use Rattle.qs_graph.proofs.StatementPlaces.{length_places}

graph_count : (body : Statements) → length (block_graph body) ≡ node_count body + 2
graph_count body =
    let last = 1 + node_count body in
    omega (arith, length-append (places_of 1 last last body) (exit ∷ []), length_places 1 last last body)

module _ (objects : List Name) (kinds : List Kind) (variables : List Name) where
  -- the statements of a tree have a line for each node
  statements_count : (es : List ℕ) (s : tree.Stmts) → length (statement_nodes es s) ≡ node_count (body_of objects kinds variables s)
  statements_count es tree.end = refl
  statements_count es (tree.command c rest) = omega (arith, statements_count (drop (length (call_anchors false c)) es) rest)
  statements_count es (tree.query x c rest) = omega (arith, statements_count (drop (1 + length (call_anchors true c)) es) rest)
  statements_count es (tree.assign x e rest) = omega (arith, statements_count (drop (1 + length (expr_anchors e)) es) rest)
  statements_count es (tree.choose t first rest) =
      let inside = drop (length (test_anchors t)) es in
      let after = drop (anchor_count first) inside in
      omega (arith, length-append (statement_nodes inside first) (statement_nodes after rest), statements_count inside first, statements_count after rest)
  statements_count es (tree.choose_else t first other rest) =
      let inside = drop (length (test_anchors t)) es in
      let otherwise = drop (anchor_count first) inside in
      let after = drop (anchor_count other) otherwise in
      omega (
        arith,
        length-append (statement_nodes inside first) (statement_nodes otherwise other ++ statement_nodes after rest),
        length-append (statement_nodes otherwise other) (statement_nodes after rest),
        statements_count inside first,
        statements_count otherwise other,
        statements_count after rest,
      )
  statements_count es (tree.again n body rest) =
      let inside = drop 1 es in
      let after = drop (anchor_count body) inside in
      omega (arith, length-append (statement_nodes inside body) (statement_nodes after rest), statements_count inside body, statements_count after rest)
  statements_count es (tree.leave rest) = omega (arith, statements_count (drop 1 es) rest)

  -- so do the blocks
  blocks_count : (es : List ℕ) (bs : List Block) (k : ℕ) → k < length bs
      → length (get_or (blocks_nodes es bs) k []) + 1 ≡ length (block_graph (get_or (map (block_shape objects kinds variables) bs) k no_block).body)
  blocks_count es [] k h = absurd (omega (arith, h))
  blocks_count es (b ∷ bs) zero h =
      omega (arith, statements_count (drop (1 + length b.reserved) es) b.body, graph_count (body_of objects kinds variables b.body))
  blocks_count es (b ∷ bs) (suc k) h = blocks_count (drop (length (block_anchors b)) es) bs k (omega (arith, h))

-- each block of a client has a line for each node of its graph but Exit
abbrev HaveLines : List (List ℕ) → ClientShape → Type 0
HaveLines lines c =
    (k : ℕ) → k < length c.blocks → length (get_or lines k []) + 1 ≡ length (block_graph (own_in c.start k (get_or c.blocks k no_block)).body)

own_blocks : (objects : List Name) (kinds : List Kind) (es : List ℕ) (c : ClientItem) → HaveLines (blocks_nodes es c.blocks) (client_shape objects kinds c)
own_blocks objects kinds es c k h = search (rules, length-map, blocks_count)

-- the blocks of a template that is found have those of its text
template_blocks : (objects : List Name) (es : List ℕ) (t : TemplateItem) (i : StartedItem) → HaveLines (blocks_nodes es t.blocks) (started_of objects (Some t) i)
template_blocks objects es t i k h =
    let own = own_client t in
    let binding = binding_of objects i in
    own_blocks (map (λ d. d.name) (declared_formals t.formals)) (map (λ d. d.kind) (declared_formals t.formals)) es (as_client t) k
    (omega (arith, h, length-map own.blocks (bound_block binding)))

-- one template or another
either : (objects : List Name) (i : StartedItem) (is : Bool) (t : TemplateItem) (other : Option TemplateItem) (here there : List (List ℕ))
    → HaveLines here (started_of objects (Some t) i) → HaveLines there (started_of objects other i)
    → HaveLines (if is then here else there) (started_of objects (if is then Some t else other) i)
either objects i true t other here there h g = h
either objects i false t other here there h g = g

started_count : (objects : List Name) (i : StartedItem) (es : List ℕ) (items : List Item) (n : Name)
    → HaveLines (template_nodes es items n) (started_of objects (template_called (templates_in items) n) i)
started_count objects i es [] n k h = absurd (omega (arith, h))
started_count objects i es (Object o ∷ is) n k h = started_count objects i (drop (length (item_anchors (Object o))) es) is n k h
started_count objects i es (Client c ∷ is) n k h = started_count objects i (drop (length (item_anchors (Client c))) es) is n k h
started_count objects i es (Template t ∷ is) n k h =
    let blocks = drop (1 + length t.formals) es in
    let left = drop (length (item_anchors (Template t))) es in
    either objects i (same_name n t.name) t (template_called (templates_in is) n) (blocks_nodes blocks t.blocks) (template_nodes left is n)
    (template_blocks objects blocks t i) (started_count objects i left is n) k h
started_count objects i es (Started c ∷ is) n k h = started_count objects i (drop (length (item_anchors (Started c))) es) is n k h

-- all clients, where the counts of templates are so
module _ (templates : Name → List (List ℕ)) (ts : List TemplateItem) (objects : List Name) (kinds : List Kind)
    (counted : (i : StartedItem) → HaveLines (templates i.template) (started_of objects (template_called ts i.template) i)) where
  clients_count : (es : List ℕ) (items : List Item) (c : ℕ) → c < length (clients_of ts objects kinds items)
      → HaveLines (get_or (clients_nodes templates es items) c []) (get_or (clients_of ts objects kinds items) c no_client)
  clients_count es [] c h = absurd (omega (arith, h))
  clients_count es (Object o ∷ is) c h = clients_count (drop (length (item_anchors (Object o))) es) is c h
  clients_count es (Client i ∷ is) zero h = own_blocks objects kinds (drop 1 es) i
  clients_count es (Client i ∷ is) (suc c) h = clients_count (drop (length (item_anchors (Client i))) es) is c (omega (arith, h))
  clients_count es (Template t ∷ is) c h = clients_count (drop (length (item_anchors (Template t))) es) is c h
  clients_count es (Started i ∷ is) zero h = counted i
  clients_count es (Started i ∷ is) (suc c) h = clients_count (drop (length (item_anchors (Started i))) es) is c (omega (arith, h))

pub nodes_have_lines : NodesHaveLines
nodes_have_lines es items c k client block = search (rules, started_count, clients_count)
