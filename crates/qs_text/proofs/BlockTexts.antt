-- The head of a block and then its nodes are the text of that block, by any name of its list and its graph; and a sound
-- program has just one text of its blocks, although the definition lets the held sets be any that fit. The functions
-- that write graphs, and the laws that there is one such text, stand on it. What is held at a node is fixed by the
-- graph; then it goes by induction on the blocks and the clients.
use Rattle.std.proofs.Common.{◌≡◌, ℕ, ◌<◌, Bool, List, ◌++◌, length, refl, sym, ap, ap₂, subst, ◌∙◌, append_assoc, arith}
use Rattle.qs_objects.proofs.Elements.{AllByRecursion-get_or}
use Rattle.qs_program.specs.audit.Program.{ProgramShape, blocks_of, own_block}
use Rattle.qs_program.specs.Sound.{IsSound}
use Rattle.qs_meaning.proofs.Each.{each_map}
use Rattle.qs_graph.specs.declared.node.Node.{Node}
use Rattle.qs_graph.specs.declared.node.Node.TheVariants.{Sync}
use Rattle.qs_graph.specs.audit.Names.{graph_of}
use Rattle.qs_graph.specs.audit.Nodes.{ControlGraph, place_at, exit}
use Rattle.qs_graph.specs.WellFormed.{IsGraphNode, IsInRange}
use Rattle.qs_graph.proofs.Ranges.{blocks_have_graphs, sound_own}
use Rattle.qs_syncset.specs.held.Flow.{Holding}
use Rattle.qs_syncset.specs.held.Table.{AreSetsOf, has}
use Rattle.qs_text.specs.Blocks.{AreBlocks, AreBlocksOf, IsBlock, NodeText, NodesText, is_removed, node_at}
use Rattle.qs_text.specs.audit.Texts.{texts_up_to}
use Rattle.qs_text.specs.Texts.{IsAdded}
use Rattle.qs_text.proofs.SameTexts.{one_up_to, same_filter, same_sets, same_texts}

pub block_added : (p : ProgramShape) (c k : ℕ) (head : List ℕ) (nodes : NodesText) (reserved : List ℕ) (g : ControlGraph) (sets : List (List Bool)) (first line all : List ℕ)
    → reserved ≡ (own_block p c k).reserved → g ≡ graph_of p c k → AreSetsOf g sets
    → line ≡ first ++ head → all ≡ line ++ nodes reserved g sets → IsAdded (IsBlock p c k head nodes) first all
block_added p c k head nodes reserved g sets first line all r e held f h =
    let own = (own_block p c k).reserved in
    let built = graph_of p c k in
    let same : nodes reserved g sets ≡ nodes own built sets = ap (λ rs. nodes rs g sets) r ∙ ap (λ (q : ControlGraph). nodes own q sets) e in (
      head ++ nodes own built sets,
      record { sets = sets; held = subst (λ q. AreSetsOf q sets) e held; is = refl },
      h ∙ ap (λ l. l ++ nodes reserved g sets) f ∙ append_assoc first head (nodes reserved g sets) ∙ ap (λ l. first ++ (head ++ l)) same,
    )

same_removed : (f g : Holding) (v : Node) → IsInRange v → ((h : ℕ) → h < 8 → f h ≡ g h) → is_removed f v ≡ is_removed g v
same_removed f g (Sync h) range same = same h range
same_removed f g _ range same = refl

-- whichever sets fit, the texts of the nodes are the same
pub same_nodes : (p : ProgramShape) (c k : ℕ) → IsSound p → (node : NodeText) (one other : List (List Bool)) → AreSetsOf (graph_of p c k) one → AreSetsOf (graph_of p c k) other
    → texts_up_to (length (graph_of p c k).nodes) (node_at node (own_block p c k).reserved (graph_of p c k).nodes one)
    ≡ texts_up_to (length (graph_of p c k).nodes) (node_at node (own_block p c k).reserved (graph_of p c k).nodes other)
same_nodes p c k sound node one other a b =
    let g = graph_of p c k in
    let own = own_block p c k in
    let text = sound_own p c k sound in
    same_texts (node_at node own.reserved g.nodes one) (node_at node own.reserved g.nodes other) (length g.nodes) (λ n inside.
    let same = same_sets g one other a b n inside in
    let place : IsGraphNode (length g.nodes) (place_at g.nodes n) =
    AllByRecursion-get_or (IsGraphNode (length g.nodes)) g.nodes n exit (blocks_have_graphs p c k sound).own.places inside in
    ap₂ (λ removed names. node n (place_at g.nodes n) removed names)
    (same_removed (has one n) (has other n) (place_at g.nodes n).node place.in_range same)
    (same_filter (has one n) (has other n) own.reserved (each_map (λ h l. same h (omega (arith, l, text.few))) own.reserved text.text.known)))

-- a block has one text, where its nodes have
pub one_block : (p : ProgramShape) (c k : ℕ) (head : List ℕ) (nodes : NodesText)
    → ((one other : List (List Bool)) → AreSetsOf (graph_of p c k) one → AreSetsOf (graph_of p c k) other
    → nodes (own_block p c k).reserved (graph_of p c k) one ≡ nodes (own_block p c k).reserved (graph_of p c k) other)
    → (one other : List ℕ) → IsBlock p c k head nodes one → IsBlock p c k head nodes other → one ≡ other
one_block p c k head nodes same one other a b = a.is ∙ ap (λ l. head ++ l) (same a.sets b.sets a.held b.held) ∙ sym b.is

-- a program has one text of its blocks, where each has
pub one_of_blocks : (p : ProgramShape) (IsOne : (c k : ℕ) → List ℕ → Type 0) → ((c k : ℕ) (one other : List ℕ) → IsOne c k one → IsOne c k other → one ≡ other)
    → (one other : List ℕ) → AreBlocks p IsOne one → AreBlocks p IsOne other → one ≡ other
one_of_blocks p IsOne each =
    one_up_to (AreBlocksOf p IsOne) (length p.clients) (λ c client. one_up_to (IsOne c) (blocks_of p c) (λ k block. each c k))
