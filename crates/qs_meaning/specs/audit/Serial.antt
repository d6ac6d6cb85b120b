-- Legal orders of reservations, and the serial run: the blocks of an order one after another.
use Rattle.std.specs.Prelude.{◌≡◌, ◌<◌, ℕ, suc, List, [], ◌∷◌, Option, Some, None, replicate, pos}
use Rattle.qs_objects.specs.audit.Act.{State, account}
use Rattle.qs_objects.specs.audit.Objects.{starts}
use Rattle.qs_objects.specs.declared.held.Ticket.{Ticket}
use Rattle.qs_program.specs.audit.Values.{Locals}
use Rattle.qs_meaning.specs.audit.Solo.{States, put}
use Rattle.qs_program.specs.audit.Program.{ProgramShape, object_at, blocks_of}
use Rattle.qs_program.specs.audit.Limits.{most_variables}

-- the tickets of each client come as 0, 1, 2, .. and each names a block of the program; from these counts of begun
-- blocks on
abbrev pub LegalFrom : ProgramShape → (ℕ → ℕ) → List Ticket → Type 0
LegalFrom p begun [] = Unit {0}
LegalFrom p begun (t ∷ ts) =
    (t.index ≡ begun t.client) × (t.index < blocks_of p t.client) × LegalFrom p (put begun t.client (suc t.index)) ts

abbrev pub IsLegal : ProgramShape → List Ticket → Type 0
IsLegal p order = LegalFrom p (λ _. 0) order

-- no such object: an account of nothing
abbrev pub no_state : State
no_state = record { content = account (pos 0); refused = pos 0 }

abbrev pub state_or_none : Option State → State
state_or_none None = no_state
state_or_none (Some s) = s

-- the objects as declared
abbrev pub declared_states : ProgramShape → States
declared_states p h = state_or_none (starts (object_at p h).kind)

-- all variables begin at 0
abbrev pub zeros : Locals
zeros = replicate most_variables (pos 0)
