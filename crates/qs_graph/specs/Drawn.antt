-- The graph of a block as a relation from its statements: which numbers they have, and what comes next after each.
use Rattle.std.specs.Prelude.{◌≡◌, ◌<◌, ℕ, ◌+◌, List, length}
use Rattle.qs_program.specs.audit.Statements.{Statements, end, command, query, assign, choose, again, leave}
use Rattle.qs_graph.specs.declared.node.Node.TheVariants.{Entry, Local, Branch, Sync, Query, Call}
use Rattle.qs_graph.specs.declared.node.Action.TheVariants.{Assign, SetCount, Nothing}
use Rattle.qs_graph.specs.declared.node.Choice.TheVariants.{If, Repeat}
use Rattle.qs_graph.specs.audit.Nodes.{GraphNode, place_at, to, to_either, exit}
use Rattle.qs_graph.specs.audit.Graphs.{block_graph}

module _ (g : List GraphNode) where
  -- the node of a number, with its edges
  abbrev pub IsNode : ℕ → GraphNode → Type 0
  IsNode n p = (n < length g) × (place_at g n ≡ p)

  -- the statements have the numbers from `at` to before `past` in text order, and begin at `first`; `next` comes after
  -- the last of them, and a `leave` goes to `out`. An empty list begins at what comes after it. What comes next after a
  -- statement is where the rest of its list begins; after the last of a repeat's body comes the repeat's branch, and a
  -- `leave` in it goes to what comes after the repeat
  abbrev pub AreDrawn : Statements → (at past first next out : ℕ) → Type 0
  AreDrawn end at past first next out = (past ≡ at) × (first ≡ next)
  AreDrawn (assign x e rest) at past first next out =
      (after : ℕ) × (first ≡ at) × IsNode at (to (Local (Assign x e)) after)
      × AreDrawn rest (at + 1) past after next out
  AreDrawn (command c rest) at past first next out =
      (after : ℕ) × (first ≡ at) × IsNode at (to (Call c) after) × AreDrawn rest (at + 1) past after next out
  AreDrawn (query x c rest) at past first next out =
      (after : ℕ) × (first ≡ at) × IsNode at (to (Sync c.object) (at + 1)) × IsNode (at + 1) (to (Query x c) after)
      × AreDrawn rest (at + 2) past after next out
  AreDrawn (choose t has_else one other rest) at past first next out =
      (at_other at_rest inside otherwise after : ℕ) × (first ≡ at)
      × IsNode at (to_either (Branch (If t)) inside otherwise)
      × AreDrawn one (at + 1) at_other inside after out × AreDrawn other at_other at_rest otherwise after out
      × AreDrawn rest at_rest past after next out
  AreDrawn (again n body rest) at past first next out =
      (at_rest inside after : ℕ) × (first ≡ at) × IsNode at (to (Local (SetCount n)) (at + 1))
      × IsNode (at + 1) (to_either (Branch Repeat) inside after)
      × AreDrawn body (at + 2) at_rest inside (at + 1) after × AreDrawn rest at_rest past after next out
  AreDrawn (leave rest) at past first next out =
      (after : ℕ) × (first ≡ at) × IsNode at (to (Local Nothing) out) × AreDrawn rest (at + 1) past after next out

-- node 0 is Entry, then come the nodes of the statements, and Exit is last and comes after them
pub record IsDrawing (g : List GraphNode) (body : Statements) : Type 0 where
  pub first : ℕ
  pub last : ℕ
  pub entry : place_at g 0 ≡ to Entry first
  pub statements : AreDrawn g body 1 last first last last
  pub exits : place_at g last ≡ exit
  pub count : length g ≡ last + 1

-- the graph of a block is drawn so, and nothing else is
pub record GraphsAreDrawings : Type 0 where
  pub drawn : (body : Statements) → IsDrawing (block_graph body) body
  pub alone : (g : List GraphNode) (body : Statements) → IsDrawing g body → g ≡ block_graph body
