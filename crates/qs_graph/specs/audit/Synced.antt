-- A block as an interaction tree with its synchronisations: one with the handler before each query.
use Rattle.std.specs.Prelude.{ℕ, ℤ}
use Rattle.qs_objects.specs.declared.Request.{Request}
use Rattle.qs_program.specs.audit.Values.{Locals}

-- over, with these variables; a command, and the rest; a synchronisation, and the rest; a query, and for each reply the
-- rest
pub data Synced : Type 0 where
  Done : (locals : Locals) → Synced
  Call : (request : Request) → (next : Synced) → Synced
  Sync : (handler : ℕ) → (next : Synced) → Synced
  Query : (request : Request) → (next : ℤ → Synced) → Synced
