-- Beside what the headline reaches (`audit/Synced.antt`): what else contracts and proofs use.
use Rattle.std.specs.Prelude.{ℕ, ℤ}
use Rattle.qs_objects.specs.declared.Request.{Request}
use Rattle.qs_program.specs.audit.Statements.{Statements}
use Rattle.qs_program.specs.audit.Values.{Locals}
use Rattle.qs_meaning.specs.audit.Interaction.{Interaction}
use Rattle.qs_meaning.specs.audit.Interaction as tree
use Rattle.qs_graph.specs.audit.Synced.{Synced, Done, Call, Sync, Query}

-- what comes next, by the variables
abbrev pub Next : Type 0
Next = Locals → Synced

-- a query, after a synchronisation with its object's handler
abbrev pub sync_and_query : Request → (ℤ → Synced) → Synced
sync_and_query r next = Sync r.object (Query r next)

-- n turns of a repeat's body, and then what comes after the repeat
abbrev pub turns : ℕ → (Next → Next) → Next → Next
turns n body next = tree.turns_in n body next

-- the tree of statements, by what comes after them and what comes after the innermost repeat
abbrev pub meaning : Statements → Next → Next → Next
meaning body next leaves l = tree.meaning_in Call sync_and_query body next leaves l

-- the tree of a whole block
abbrev pub synced_of : Statements → Locals → Synced
synced_of body l = meaning body Done Done l

-- the tree without its synchronisations
abbrev pub without_syncs : Synced → Interaction
without_syncs (Done l) = tree.Done l
without_syncs (Call r next) = tree.Call r (without_syncs next)
without_syncs (Sync h next) = without_syncs next
without_syncs (Query r next) = tree.Query r (λ v. without_syncs (next v))
