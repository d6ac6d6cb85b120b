-- What walks through the graph of a block do.
use Rattle.std.specs.Prelude.{◌≡◌, ◌<◌, ◌≤◌, ℕ, ◌*◌, List, ◌∷◌, length}
use Rattle.qs_program.specs.audit.Statements.{Statements}
use Rattle.qs_program.specs.audit.Values.{Locals}
use Rattle.qs_meaning.specs.audit.Solo.{States, solo}
use Rattle.qs_meaning.specs.audit.Interaction.{tree_of}
use Rattle.qs_program.specs.audit.Loads.{weight_of}
use Rattle.qs_program.specs.audit.Program.{ProgramShape, binding_of, block_at, declarations_of, own_block}
use Rattle.qs_program.specs.Sound.{IsSound}
use Rattle.qs_program.specs.audit.Binding.{bound_statements}
use Rattle.qs_graph.specs.audit.Bound.{bound_nodes}
use Rattle.qs_graph.specs.audit.Names.{graph_of}
use Rattle.qs_graph.specs.audit.Nodes.{GraphNode}
use Rattle.qs_graph.specs.audit.Graphs.{block_graph}
use Rattle.qs_graph.specs.audit.Paths.{IsPath}
use Rattle.qs_graph.specs.WellFormed.{IsGraph}
use Rattle.qs_graph.specs.SoundNodes.{AreSoundNodes}
use Rattle.qs_graph.specs.Synced.{synced_of, without_syncs}
use Rattle.qs_graph.specs.audit.Walk.{Spot, Goes, entry, move, tree_of_move, walk}
use Rattle.qs_graph.specs.Walk.{EachNext, Within, silent}
use Rattle.qs_graph.specs.WalkAlone.{walk_alone}
use Rattle.qs_graph.specs.audit.Steps.{limit}
use Rattle.qs_graph.specs.Steps.{steps, whole_steps}

-- from Entry, with these variables and any counts: within n nodes the walk is at Exit, it says what the block's tree
-- with its synchronisations says, and with each request done at once it makes the trace, the variables and the states
-- of the block alone
pub record FollowsBlock (n : ℕ) (body : Statements) (l : Locals) (counts : List ℕ) : Type 0 where
  pub ends : Within (block_graph body) n (entry l counts)
  pub tree : walk (block_graph body) n (entry l counts) ≡ synced_of body l
  pub alone : (st : States) → walk_alone (block_graph body) n (entry l counts) st ≡ solo body l st

abbrev pub WalksFollowBlocks : Type 0
WalksFollowBlocks =
    (body : Statements) (l : Locals) (counts : List ℕ) → length (block_graph body) ≤ length counts
    → FollowsBlock (whole_steps body) body l counts

-- a walk through statements takes at most three nodes for each unit of their weight
abbrev pub StepsWithinWeight : Type 0
StepsWithinWeight = (body : Statements) → steps body ≤ 3 * weight_of body

-- each block of a sound program; past its last block one that is empty
abbrev pub WalksWithinLimit : Type 0
WalksWithinLimit =
    (p : ProgramShape) (c k : ℕ) (l : Locals) (counts : List ℕ) → IsSound p
    → length (block_graph (block_at p c k).body) ≤ length counts
    → FollowsBlock limit (block_at p c k).body l counts

-- the tree without its synchronisations is the block's interaction tree
abbrev pub SyncsErased : Type 0
SyncsErased = (body : Statements) (l : Locals) → without_syncs (synced_of body l) ≡ tree_of body l

-- where a walk is within the limit, so is each spot that follows; what it says is what its node says and then what they
-- say; and a silent move leaves fewer silent moves before the next one that is not
pub record Unfolds (g : List GraphNode) (s : Spot) : Type 0 where
  pub next : EachNext (Within g limit) (move g s)
  pub here : walk g limit s ≡ tree_of_move (walk g limit) s.locals (move g s)
  pub falls : (t : Spot) → move g s ≡ Goes t → silent g limit t < silent g limit s

abbrev pub WalksUnfold : Type 0
WalksUnfold = (g : List GraphNode) (s : Spot) → Within g limit s → Unfolds g s

-- a path stays in its graph
abbrev pub PathsStayInside : Type 0
PathsStayInside = (g : List GraphNode) (before : List ℕ) (n : ℕ) → IsGraph g → IsPath g before n → n < length g

-- a walk goes along edges, and so along a path
abbrev pub WalksGoAlongPaths : Type 0
WalksGoAlongPaths =
    (g : List GraphNode) (s : Spot) (before : List ℕ) → IsGraph g → s.node < length g → IsPath g before s.node
    → EachNext (λ t. IsPath g (s.node ∷ before) t.node) (move g s)

-- The places of a block are a graph, and its nodes are sound by the block's list; so are those of the block's own text,
-- by what its names were declared as. Once each name stands for its object, these are the places of the block.
pub record HasGraph (p : ProgramShape) (c k : ℕ) : Type 0 where
  pub graph : IsGraph (block_graph (block_at p c k).body)
  pub sound : AreSoundNodes p.objects (block_at p c k).reserved (block_graph (block_at p c k).body)
  pub own : IsGraph (graph_of p c k).nodes
  pub own_sound : AreSoundNodes (declarations_of p c) (own_block p c k).reserved (graph_of p c k).nodes
  pub bound : block_graph (block_at p c k).body ≡ bound_nodes (binding_of p c) (graph_of p c k).nodes

abbrev pub BlocksHaveGraphs : Type 0
BlocksHaveGraphs = (p : ProgramShape) (c k : ℕ) → IsSound p → HasGraph p c k

-- each name of a text stands for an object: the graph of the text with its names replaced is the graph with its names
-- replaced
abbrev pub GraphsAreBound : Type 0
GraphsAreBound =
    (binding : List ℕ) (body : Statements) → block_graph (bound_statements binding body)
    ≡ bound_nodes binding (block_graph body)
