-- Static coalescing: synchronisations with handlers that are held are removed.
use Rattle.std.specs.Prelude.{◌≡◌, ◌⊎◌, ℕ, ◌<◌, List, length}
use Rattle.qs_graph.specs.declared.node.Node.{Node}
use Rattle.qs_graph.specs.declared.node.Node.TheVariants.{Sync}
use Rattle.qs_graph.specs.audit.Nodes.{ControlGraph, GraphNode, place_at, made_local}
use Rattle.qs_syncset.specs.audit.held.Held.{IsHeld}

-- a synchronisation becomes a local node that does nothing exactly where its handler is held, and every other place
-- stays
abbrev pub IsRemovedIfHeld : (held : ℕ → Type 0) → Node → (old new : GraphNode) → Type 0
IsRemovedIfHeld held (Sync h) old new = (held h × (new ≡ made_local old)) ⊎ ((held h → ⊥) × (new ≡ old))
IsRemovedIfHeld held _ old new = new ≡ old

-- the same numbers and edges, without the synchronisations that are held
pub record IsCoalesced (g : ControlGraph) (new : List GraphNode) : Type 0 where
  pub count : length new ≡ length g.nodes
  pub places : (n : ℕ) → n < length g.nodes
      → IsRemovedIfHeld (IsHeld g n) (place_at g.nodes n).node (place_at g.nodes n) (place_at new n)
