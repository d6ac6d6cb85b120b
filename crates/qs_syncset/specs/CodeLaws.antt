-- What a client's walks through its code do.
use Rattle.std.specs.Prelude.{◌≡◌, ◌<◌, ◌≤◌, ℕ, List, length}
use Rattle.qs_meaning.specs.audit.Interaction.{tree_of}
use Rattle.qs_program.specs.audit.Program.{BlockShape, ProgramShape, block_at, blocks_of}
use Rattle.qs_program.specs.Sound.{IsSound}
use Rattle.qs_program.specs.audit.Values.{Locals}
use Rattle.qs_graph.specs.audit.Nodes.{ControlGraph, GraphNode}
use Rattle.qs_graph.specs.SoundNodes.{AreSoundNodes}
use Rattle.qs_graph.specs.audit.Steps.{limit}
use Rattle.qs_graph.specs.Synced.{without_syncs}
use Rattle.qs_graph.specs.audit.Walk.{entry, walk}
use Rattle.qs_graph.specs.Walk.{Within}
use Rattle.qs_syncset.specs.declared.mode.Mode.{Mode}
use Rattle.qs_syncset.specs.audit.Coalesced.{IsCoalesced}
use Rattle.qs_syncset.specs.audit.Codes.{ClientCode, IsCodeOf, code_at}
use Rattle.qs_syncset.specs.held.Flow.{nothing}
use Rattle.qs_syncset.specs.SoundSynced.{IsSoundSynced, IsOnReserved}

-- from Entry, with these variables and any counts: within the limit the walk is at Exit; without its synchronisations
-- it says the block's interaction tree; each query is on an object that is held, and all is asked of the block's list
pub record IsSoundWalk (b : BlockShape) (g : List GraphNode) (l : Locals) (counts : List ℕ) : Type 0 where
  pub ends : Within g limit (entry l counts)
  pub tree : without_syncs (walk g limit (entry l counts)) ≡ tree_of b.body l
  pub sound : IsSoundSynced nothing (walk g limit (entry l counts))
  pub reserved : IsOnReserved b.reserved (walk g limit (entry l counts))

-- each block of a sound program, with its graph as it is built and coalesced
abbrev pub WalksAreSound : Type 0
WalksAreSound =
    (p : ProgramShape) (mode : Mode) (c : ℕ) (code : ClientCode) → IsSound p → IsCodeOf p mode c code
    → (k : ℕ) (l : Locals) (counts : List ℕ) → k < blocks_of p c → length (code_at code k).graph ≤ length counts
    → IsSoundWalk (block_at p c k) (code_at code k).graph l counts

-- the nodes of a code's graphs are sound by the program's objects and the blocks' lists
abbrev pub NodesStaySound : Type 0
NodesStaySound =
    (p : ProgramShape) (mode : Mode) (c : ℕ) (code : ClientCode) → IsSound p → IsCodeOf p mode c code
    → (k : ℕ) → k < blocks_of p c → AreSoundNodes p.objects (block_at p c k).reserved (code_at code k).graph

-- a graph has one coalesced form
abbrev pub CoalescingIsUnique : Type 0
CoalescingIsUnique =
    (g : ControlGraph) (one other : List GraphNode) → IsCoalesced g one → IsCoalesced g other → one ≡ other
