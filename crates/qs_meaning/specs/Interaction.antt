-- Beside what the headline reaches (`audit/Interaction.antt`): what else contracts and proofs use.
use Rattle.std.specs.Prelude.{◌≡◌, ℕ, [], ◌∷◌, None}
use Rattle.qs_objects.specs.declared.held.Event.{Event}
use Rattle.qs_program.specs.audit.Statements.{Statements}
use Rattle.qs_program.specs.audit.Values.{Locals}
use Rattle.qs_meaning.specs.audit.Solo.{States, BlockResult, states_after, value_of, event, solo}
use Rattle.qs_objects.specs.audit.Journals.{answer}
use Rattle.qs_meaning.specs.audit.Interaction.{turns_in, Interaction, Done, Call, Query, Next, tree_of}

-- n turns of a repeat's body, and then what comes after the repeat
abbrev pub turns : ℕ → (Next → Next) → Next → Next
turns n body next = turns_in n body next

abbrev pub after_event : Event → BlockResult → BlockResult
after_event e o = record { trace = e ∷ o.trace; locals = o.locals; states = o.states }

-- each request of a tree done at once
abbrev pub run : Interaction → States → BlockResult
run (Done l) st = record { trace = []; locals = l; states = st }
run (Call r next) st = after_event (event r None) (run next (states_after st r))
run (Query r next) st =
    let v = answer (st r.object) r in after_event (event r v) (run (next (value_of v)) (states_after st r))

-- a block alone does what its interaction tree does
abbrev pub TreesAgree : Type 0
TreesAgree = (body : Statements) (l : Locals) (st : States) → solo body l st ≡ run (tree_of body l) st
