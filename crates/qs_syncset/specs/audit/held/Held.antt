-- The handlers that are held at a node: known to be synchronised with, on whatever path it is reached. A handler stands
-- here by the name that the graph's nodes have for it.
use Rattle.std.specs.Prelude.{◌≡◌, ℕ, true, List, ◌∷◌, ◌++◌}
use Rattle.std.specs.List.{AllByRecursion}
use Rattle.qs_graph.specs.declared.node.Node.{Node}
use Rattle.qs_graph.specs.declared.node.Node.TheVariants.{Sync, Call}
use Rattle.qs_graph.specs.audit.Names.{may_be_one}
use Rattle.qs_graph.specs.audit.Nodes.{ControlGraph, place_at}
use Rattle.qs_graph.specs.audit.Paths.{IsPath}

-- a call of h: of its name, and where names may be aliases, of any name of its kind
abbrev pub IsCallOf : ControlGraph → ℕ → Node → Type 0
IsCallOf g h (Call c) = may_be_one g c.object h ≡ true
IsCallOf g h _ = ⊥

-- among the nodes before a path's last, the latest first, there is a synchronisation with h, and no call of h since
pub record IsSynced (g : ControlGraph) (h : ℕ) (before : List ℕ) : Type 0 where
  pub since : List ℕ
  pub sync : ℕ
  pub earlier : List ℕ
  pub parts : before ≡ since ++ sync ∷ earlier
  pub is_sync : (place_at g.nodes sync).node ≡ Sync h
  pub no_call : AllByRecursion (λ m. IsCallOf g h (place_at g.nodes m).node → ⊥) since

-- h is held at n: so it is on every path from Entry to n; where no path leads to n, every handler is held there
abbrev pub IsHeld : ControlGraph → ℕ → ℕ → Type 0
IsHeld g n h = (before : List ℕ) → IsPath g.nodes before n → IsSynced g h before
