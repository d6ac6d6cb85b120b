-- A sound program has just one text of its graphs, although the definition lets the held sets be any that fit. The law
-- on these texts, `GraphJsonIsUnique`, is proved here. What is held at a node is fixed by the graph, so each node is.
use Rattle.std.proofs.Common.{◌≡◌, ℕ, Bool, List, ◌++◌, codes, ap}
use Rattle.qs_program.specs.audit.Program.{ProgramShape, own_block}
use Rattle.qs_program.specs.Sound.{IsSound}
use Rattle.qs_graph.specs.audit.Names.{graph_of}
use Rattle.qs_syncset.specs.held.Table.{AreSetsOf}
use Rattle.qs_text.proofs.BlockTexts.{one_block, one_of_blocks, same_nodes}
use Rattle.qs_json.specs.audit.Pieces.{comma_at, field}
use Rattle.qs_json.specs.GraphJson.{graph_nodes_json, node_json, owner_json, IsBlockJson, IsGraphJson, GraphJsonIsUnique}

same_fields : (p : ProgramShape) (c k : ℕ) → IsSound p → (one other : List (List Bool)) → AreSetsOf (graph_of p c k) one → AreSetsOf (graph_of p c k) other
    → graph_nodes_json p c (own_block p c k).reserved (graph_of p c k) one ≡ graph_nodes_json p c (own_block p c k).reserved (graph_of p c k) other
same_fields p c k sound one other a b =
    ap (λ l. field (codes "nodes") (codes "[" ++ l ++ codes "]") ++ codes "}\n")
    (same_nodes p c k sound (λ n place removed names. comma_at n ++ node_json p c n place removed names) one other a b)

pub one_graph_json : GraphJsonIsUnique
unfolding IsGraphJson
one_graph_json p one other sound =
    one_of_blocks p (IsBlockJson p) (λ c k. one_block p c k (owner_json p c k) (graph_nodes_json p c) (same_fields p c k sound)) one other
