-- What is recorded of a block while it runs, whatever machine runs it: the client's variables at entry, the trace so
-- far, and what is left.
use Rattle.std.specs.Prelude.{◌≡◌, ℕ, zero, suc, List}
use Rattle.qs_objects.specs.declared.held.Event.{Event}
use Rattle.qs_objects.specs.declared.held.Ticket.{Ticket}
use Rattle.qs_program.specs.audit.Program.{ProgramShape}
use Rattle.qs_program.specs.audit.Values.{Locals}
use Rattle.qs_meaning.specs.Following.{Leads, block_tree}
use Rattle.qs_meaning.specs.audit.Interaction.{Interaction, Done, Call, Query}
use Rattle.qs_meaning.specs.audit.Serial.{zeros}

-- what is known of a reservation: the variables at entry, the trace so far, and what is left of the block
pub record BlockRecord : Type 0 where
  pub entry : Locals
  pub trace : List Event
  pub rest : Interaction

abbrev pub IsDone : Interaction → Type 0
IsDone (Done l) = Unit {0}
IsDone (Call r next) = ⊥
IsDone (Query r next) = ⊥

abbrev pub IsBlockRecord : ProgramShape → Ticket → BlockRecord → Type 0
IsBlockRecord p t pg = Leads (block_tree p t pg.entry) pg.trace pg.rest

-- a block begins with what the client's block before it left
abbrev pub Begins : (Ticket → BlockRecord) → ℕ → ℕ → Locals → Type 0
Begins block_record c zero l = l ≡ zeros
Begins block_record c (suc k) l = (block_record (record { client = c; index = k })).rest ≡ Done l
