-- How what is held goes along paths, and from node to node.
use Rattle.std.specs.Prelude.{◌≡◌, ℕ, ◌<◌, Bool, true, false, if◌then◌else◌, List, [], ◌∷◌}
use Rattle.qs_program.specs.audit.Limits.{most_handlers}
use Rattle.qs_meaning.specs.audit.Solo.{put}
use Rattle.qs_graph.specs.declared.node.Node.{Node}
use Rattle.qs_graph.specs.declared.node.Node.TheVariants.{Sync, Call}
use Rattle.qs_graph.specs.audit.Names.{may_be_one}
use Rattle.qs_graph.specs.audit.Nodes.{ControlGraph, place_at}
use Rattle.qs_graph.specs.audit.Paths.{HasEdge, IsPath}

-- for each handler, by its name in a graph, whether it is held
abbrev pub Holding : Type 0
Holding = ℕ → Bool

abbrev pub nothing : Holding
nothing h = false

-- what is held after a call: no name of which it may be a call
abbrev pub without : (called : ℕ → Bool) → Holding → Holding
without called held h = if called h then false else held h

-- what is held after a node, from what is held before it
abbrev pub held_after : ControlGraph → Node → Holding → Holding
held_after g (Sync h) held = put held h true
held_after g (Call c) held = without (may_be_one g c.object) held
held_after g _ held = held

-- what is held at the end of a path, whose nodes before the last are these, the latest first
abbrev pub held_along : ControlGraph → List ℕ → Holding
held_along g [] = nothing
held_along g (m ∷ before) = held_after g (place_at g.nodes m).node (held_along g before)

pub record HasPath (g : ControlGraph) (n : ℕ) : Type 0 where
  pub before : List ℕ
  pub path : IsPath g.nodes before n

-- a path to n, at whose end h is not held
pub record IsMissed (g : ControlGraph) (n h : ℕ) : Type 0 where
  pub before : List ℕ
  pub path : IsPath g.nodes before n
  pub missed : held_along g before h ≡ false

-- `reached` and `held` are what is known of each node
module _ (g : ControlGraph) (reached : ℕ → Bool) (held : ℕ → Holding) where
  -- each node that is reached has a path, and each handler that is not held a path that shows it
  pub record AreWitnessed : Type 0 where
    pub reach : (n : ℕ) → reached n ≡ true → HasPath g n
    pub miss : (n h : ℕ) → h < most_handlers → held n h ≡ false → IsMissed g n h

-- Entry is reached, and nothing is held there
pub record IsAtEntry (reached : ℕ → Bool) (held : ℕ → Holding) : Type 0 where
  pub reach : reached 0 ≡ true
  pub none : (h : ℕ) → h < most_handlers → held 0 h ≡ false

-- what goes out of a node has come to n
pub record HasArrived (reached : ℕ → Bool) (held : ℕ → Holding) (n : ℕ) (out : Holding) : Type 0 where
  pub reach : reached n ≡ true
  pub below : (h : ℕ) → h < most_handlers → held n h ≡ true → out h ≡ true

-- what goes out of m has come to each node that m leads to
abbrev pub IsPassedOn : ControlGraph → (ℕ → Bool) → (ℕ → Holding) → ℕ → Type 0
IsPassedOn g reached held m =
    (n : ℕ) → HasEdge g.nodes m n → HasArrived reached held n (held_after g (place_at g.nodes m).node (held m))
