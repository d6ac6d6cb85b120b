-- Beside what the headline reaches (`audit/Following.antt`): what else contracts and proofs use.
use Rattle.std.specs.Prelude.{◌≡◌, ℕ, ℤ, Bool, true, false, List, [], ◌∷◌, ◌++◌}
use Rattle.qs_objects.specs.audit.Journals.{IsHonest}
use Rattle.qs_objects.specs.audit.Operations.{is_query}
use Rattle.qs_objects.specs.audit.Parts.{command_event, part}
use Rattle.qs_objects.specs.declared.held.Event.{Event}
use Rattle.qs_objects.specs.declared.held.Ticket.{Ticket}
use Rattle.qs_meaning.specs.audit.Interaction.{Interaction, Done, Call, Query, tree_of}
use Rattle.qs_meaning.specs.Interaction.{run}
use Rattle.qs_program.specs.audit.Program.{ProgramShape, text_of}
use Rattle.qs_meaning.specs.audit.Solo.{States, BlockResult, states_after, value_of}
use Rattle.qs_program.specs.Sound.{IsSound}
use Rattle.qs_program.specs.audit.Values.{Locals}
use Rattle.qs_meaning.specs.audit.Following.{reserves}

-- these requests with their replies lead from a tree to the rest of it
abbrev pub Leads : Interaction → List Event → Interaction → Type 0
Leads tree [] rest = tree ≡ rest
Leads (Done l) (e ∷ es) rest = ⊥
Leads (Call r next) (e ∷ es) rest = (e ≡ command_event r) × Leads next es rest
Leads (Query r next) (e ∷ es) rest = (e.request ≡ r) × Leads (next (value_of e.reply)) es rest

-- the states after a trace
abbrev pub changed_all : States → List Event → States
changed_all st [] = st
changed_all st (e ∷ es) = changed_all (states_after st e.request) es

-- an outcome with these events before it
abbrev pub noted_all : List Event → BlockResult → BlockResult
noted_all es o = record { trace = es ++ o.trace; locals = o.locals; states = o.states }

-- A trace along a tree, whose replies on each object are the object's own, is what the tree does if each request is
-- done at once.
abbrev pub HonestTracesRun : Type 0
HonestTracesRun =
    (tree : Interaction) (es : List Event) (rest : Interaction) (st : States)
    → Leads tree es rest → ((h : ℕ) → IsHonest (st h) (part h es))
    → run tree st ≡ noted_all es (run rest (changed_all st es))

-- calls are commands, asks are queries, and all are on objects that may be reached
abbrev pub AsksOnly : (ℕ → Bool) → Interaction → Type 0
AsksOnly may (Done l) = Unit {0}
AsksOnly may (Call r next) = (is_query r.op ≡ false) × (may r.object ≡ true) × AsksOnly may next
AsksOnly may (Query r next) = (is_query r.op ≡ true) × (may r.object ≡ true) × ((v : ℤ) → AsksOnly may (next v))

-- a ticket's block as an interaction tree
abbrev pub block_tree : ProgramShape → Ticket → Locals → Interaction
block_tree p t l = tree_of (text_of p t).body l

-- a block of a sound program makes requests on the objects of its list alone
abbrev pub BlocksAskOnly : Type 0
BlocksAskOnly = (p : ProgramShape) → IsSound p → (t : Ticket) (l : Locals) → AsksOnly (reserves p t) (block_tree p t l)
