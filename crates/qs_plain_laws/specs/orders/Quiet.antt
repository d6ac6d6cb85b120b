-- Under the plain rules nobody is in a block.
use Rattle.std.specs.Prelude.{◌≡◌, ℕ, List, [], length}
use Rattle.qs_objects.specs.declared.held.Ticket.{Ticket}
use Rattle.qs_program.specs.audit.Program.{ProgramShape}
use Rattle.qs_plain_laws.specs.audit.Plain.{Plain, StageOfClient, begun_blocks, client_at, handler_at, out, waiting, within}

-- between two blocks
abbrev pub IsOut : StageOfClient → Type 0
IsOut (out l) = Unit {0}
IsOut (within rest) = ⊥
IsOut (waiting next) = ⊥

-- Nobody is in a block, and nothing is in a queue; these tickets were reserved, and each client has begun so many
-- blocks.
pub record IsQuiet (p : ProgramShape) (so_far : List Ticket) (blocks : ℕ → ℕ) (s : Plain) : Type 0 where
  pub order : s.order ≡ so_far
  pub clients : length s.clients ≡ length p.clients
  pub handlers : length s.handlers ≡ length p.objects
  pub stages : (c : ℕ) → IsOut (client_at s c).stage
  pub begun : (c : ℕ) → begun_blocks (client_at s c) ≡ blocks c
  pub queues : (h : ℕ) → (handler_at s.handlers h).queues ≡ []
