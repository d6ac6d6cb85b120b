-- The names of a block's list: in a client's own block the numbers of objects, in a template's block formals.
use Rattle.std.specs.Prelude.{ℕ, Bool, ◌==◌, ◌&&◌, ◌||◌, if◌then◌else◌, List, map}
use Rattle.std.specs.List.{list_any}
use Rattle.qs_program.specs.audit.Kinds.{same_kind}
use Rattle.qs_program.specs.audit.Program.{BlockShape, ProgramShape, client_at, declared_as, is_started, own_block}
use Rattle.qs_graph.specs.declared.node.Named.{Named}
use Rattle.qs_graph.specs.audit.Graphs.{block_graph}
use Rattle.qs_graph.specs.audit.Nodes.{ControlGraph}

-- a name of a client's own text, with the kind that it was declared with
abbrev pub named : ProgramShape → ℕ → ℕ → Named
named p c name = record { name = name; kind = (declared_as p c name).kind }

-- in the order of the list
abbrev pub names_of : ProgramShape → ℕ → BlockShape → List Named
names_of p c b = map (named p c) b.reserved

-- the graph of a client's block in its own text; where the client is of a template, two names may stand for one object
abbrev pub graph_of : ProgramShape → ℕ → ℕ → ControlGraph
graph_of p c k =
    let b = own_block p c k in
    record { nodes = block_graph b.body; names = names_of p c b; aliases = is_started (client_at p c).start }

-- whether both stand in the list, with one kind
abbrev pub are_of_one_kind : List Named → ℕ → ℕ → Bool
are_of_one_kind names x y =
    list_any (λ m. (m.name == x) && list_any (λ n. (n.name == y) && same_kind m.kind n.kind) names) names

-- Whether a call of name x may be a call of the object of name y: of the same name, and where names may be aliases, of
-- any name of its kind.
abbrev pub may_be_one : ControlGraph → ℕ → ℕ → Bool
may_be_one g x y = if g.aliases then (x == y) || are_of_one_kind g.names x y else (x == y)
