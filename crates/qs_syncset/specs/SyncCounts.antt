-- How many Syncs a block sends for an object: by its trace, and by the walk through its graph as it is built.
use Rattle.std.specs.Prelude.{◌≡◌, ◌<◌, ◌≤◌, ◌↔◌, ℕ, zero, suc, ◌+◌, Bool, true, false, not, ◌&&◌, ◌==◌, if◌then◌else◌, List, [], ◌∷◌, filter, length, replicate}
use Rattle.qs_objects.specs.audit.Operations.{is_query}
use Rattle.qs_objects.specs.audit.Parts.{part}
use Rattle.qs_objects.specs.declared.held.Event.{Event}
use Rattle.qs_meaning.specs.Following.{Leads}
use Rattle.qs_meaning.specs.audit.Interaction.{Interaction, tree_of}
use Rattle.qs_program.specs.audit.Program.{ProgramShape, block_at, blocks_of}
use Rattle.qs_meaning.specs.audit.Solo.{value_of}
use Rattle.qs_program.specs.Sound.{IsSound}
use Rattle.qs_program.specs.audit.Statements.{Statements}
use Rattle.qs_program.specs.audit.Values.{Locals}
use Rattle.qs_graph.specs.audit.Graphs.{block_graph}
use Rattle.qs_graph.specs.audit.Names.{graph_of}
use Rattle.qs_graph.specs.audit.Nodes.{ControlGraph, GraphNode, place_at}
use Rattle.qs_graph.specs.declared.node.Node.{Node}
use Rattle.qs_graph.specs.audit.Steps.{limit}
use Rattle.qs_graph.specs.declared.node.Node.TheVariants as node
use Rattle.qs_graph.specs.audit.Synced.{Synced, Call, Sync, Query}
use Rattle.qs_graph.specs.audit.Walk.{Spot, Move, Goes, Calls, Syncs, Queries, entry, move, walk}
use Rattle.qs_graph.specs.WellFormed.{IsGraph}
use Rattle.qs_syncset.specs.declared.mode.Mode.{Mode}
use Rattle.qs_syncset.specs.declared.mode.Mode.TheVariants.{Plain, Static}
use Rattle.qs_syncset.specs.audit.Codes.{ClientCode, IsCodeOf, code_at}
use Rattle.qs_syncset.specs.audit.held.Held.{IsHeld}
use Rattle.qs_syncset.specs.audit.Modes.{is_dynamic, is_static}
use Rattle.qs_syncset.specs.held.Table.{AreSetsOf, has}

abbrev pub asks : Event → Bool
asks e = is_query e.request.op

-- the queries of a trace on object h
abbrev pub queries : ℕ → List Event → ℕ
queries h es = length (filter asks (part h es))

-- the queries that come directly after a command, and the first of all unless a query came directly before these events
abbrev pub first_queries : (asked : Bool) → List Event → ℕ
first_queries asked [] = 0
first_queries asked (e ∷ es) =
    if asks e then (if asked then 0 else 1) + first_queries true es else first_queries false es

-- among the requests of a trace on object h, the queries that come first or directly after a command
abbrev pub runs : ℕ → List Event → ℕ
runs h es = first_queries false (part h es)

-- A walk through a graph with a trace: its synchronisations with h whose queries are in the trace, but those of the
-- nodes that a test tells.
module _ (g : List GraphNode) (held : ℕ → Bool) (h : ℕ) where
  -- at node n, where `go` counts from the next spot on
  abbrev pub kept_by : (Spot → List Event → ℕ) → (n : ℕ) → Move → List Event → ℕ
  kept_by go n (Goes s) es = go s es
  kept_by go n (Calls r s) (e ∷ es) = go s es
  kept_by go n (Syncs k s) (e ∷ es) = (if (k == h) && not (held n) then 1 else 0) + go s (e ∷ es)
  kept_by go n (Queries r s) (e ∷ es) = go (s (value_of e.reply)) es
  kept_by go n _ _ = 0

  -- within so many nodes
  abbrev pub kept_along : ℕ → Spot → List Event → ℕ
  kept_along zero s es = 0
  kept_along (suc n) s es = kept_by (kept_along n) s.node (move g s) es

-- the block's beginning, with n counts that are 0
abbrev pub entry_with : ℕ → Locals → Spot
entry_with n l = entry l (replicate n 0)

-- the queries of a block's trace on object h that come to a synchronisation at which its handler is not held, in the
-- graph as it is built
abbrev pub kept : Statements → (ℕ → Bool) → Locals → ℕ → List Event → ℕ
kept body held l h es = kept_along (block_graph body) held h limit (entry_with (length (block_graph body)) l) es

-- a test of whether the handler that a node of a graph synchronises with is held there, by the handler's own name
abbrev pub Decides : ControlGraph → (ℕ → Bool) → Type 0
Decides g held = (n h : ℕ) → (place_at g.nodes n).node ≡ node.Sync h → (held n ≡ true) ↔ IsHeld g n h

abbrev pub HasTest : ControlGraph → Type 0
HasTest g = (held : ℕ → Bool) × Decides g held

-- The Syncs for h along a tree with synchronisations whose queries are in the trace. With the dynamic test one is
-- skipped where h is held: a synchronisation gives it, and a call sends it home.
abbrev pub syncs_along : (dynamic : Bool) → (h : ℕ) → (held : Bool) → Synced → List Event → ℕ
syncs_along dynamic h held (Call r next) (e ∷ es) =
    syncs_along dynamic h (if r.object == h then false else held) next es
syncs_along dynamic h held (Sync g next) (e ∷ es) =
    if g == h then (if dynamic && held then 0 else 1) + syncs_along dynamic h true next (e ∷ es)
    else syncs_along dynamic h held next (e ∷ es)
syncs_along dynamic h held (Query r next) (e ∷ es) = syncs_along dynamic h held (next (value_of e.reply)) es
syncs_along dynamic h held _ _ = 0

-- at most one for each query, and at least one for each of its runs
pub record AreOrdered (body : Statements) (l : Locals) (es : List Event) (h : ℕ) (held : ℕ → Bool) : Type 0 where
  pub least : runs h es ≤ kept body held l h es
  pub most : kept body held l h es ≤ queries h es

-- what a client that follows a trace of a block sends for h along the tree that this graph says; the block's graph over
-- names is `built`
pub record IsSentBy (mode : Mode) (built : ControlGraph) (body : Statements) (g : List GraphNode) (n : ℕ) (l : Locals)
    (es : List Event) (h : ℕ) : Type 0 where
  pub plain : mode ≡ Plain → syncs_along (is_dynamic mode) h false (walk g limit (entry_with n l)) es ≡ queries h es
  pub dynamic : is_dynamic mode ≡ true
      → syncs_along (is_dynamic mode) h false (walk g limit (entry_with n l)) es ≡ runs h es
  pub static : mode ≡ Static → (held : ℕ → Bool) → Decides built held
      → syncs_along (is_dynamic mode) h false (walk g limit (entry_with n l)) es ≡ kept body held l h es
  pub tested : is_static mode ≡ true → HasTest built
  pub ordered : (held : ℕ → Bool) → Decides built held → AreOrdered body l es h held

-- whether the handler that a node synchronises with is in the node's set
abbrev pub has_synced : List (List Bool) → ℕ → Node → Bool
has_synced sets n (node.Sync h) = has sets n h
has_synced sets n _ = false

-- the held sets of a graph are such a test
abbrev pub SetsDecide : Type 0
SetsDecide =
    (g : ControlGraph) (sets : List (List Bool)) → IsGraph g.nodes → AreSetsOf g sets
    → Decides g (λ n. has_synced sets n (place_at g.nodes n).node)

-- each block of a sound program, with its graph as the mode says, and each trace that leads along the block's tree
abbrev pub SyncsAreCounted : Type 0
SyncsAreCounted =
    (p : ProgramShape) (mode : Mode) (c : ℕ) (code : ClientCode) → IsSound p → IsCodeOf p mode c code
    → (k n : ℕ) (l : Locals) (es : List Event) (rest : Interaction) (h : ℕ)
    → k < blocks_of p c → length (code_at code k).graph ≤ n
    → Leads (tree_of (block_at p c k).body l) es rest
    → IsSentBy mode (graph_of p c k) (block_at p c k).body (code_at code k).graph n l es h
