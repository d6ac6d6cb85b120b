-- The held sets of a graph, as a caller sees them: for each node a truth value for each of 8 handlers.
use Rattle.std.specs.Prelude.{◌≡◌, ℕ, ◌<◌, ◌↔◌, Bool, true, List, [], length, slice_index_or}
use Rattle.qs_program.specs.audit.Limits.{most_handlers}
use Rattle.qs_graph.specs.audit.Nodes.{ControlGraph}
use Rattle.qs_graph.specs.audit.Paths.{IsPath}
use Rattle.qs_syncset.specs.audit.held.Held.{IsHeld}

-- whether a node's set has a handler
abbrev pub has : List (List Bool) → ℕ → ℕ → Bool
has sets n h = slice_index_or (slice_index_or sets n []) h true

-- a handler is in a node's set exactly where it is held
pub record AreSetsOf (g : ControlGraph) (sets : List (List Bool)) : Type 0 where
  pub nodes : length sets ≡ length g.nodes
  pub exact : (n h : ℕ) → n < length g.nodes → h < most_handlers → (has sets n h ≡ true) ↔ IsHeld g n h

-- where no path leads, a node's set has each of 8 handlers, so every name of the block's list
abbrev pub UnreachedNodesHoldAll : Type 0
UnreachedNodesHoldAll =
    (g : ControlGraph) (sets : List (List Bool)) → AreSetsOf g sets → (n h : ℕ) → n < length g.nodes → h < most_handlers
    → ((before : List ℕ) → IsPath g.nodes before n → ⊥) → has sets n h ≡ true
