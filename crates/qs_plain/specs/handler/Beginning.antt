-- Handlers before the first step.
use Rattle.std.specs.Prelude.{◌≡◌, ◌<◌, ℕ, List, [], length}
use Rattle.qs_program.specs.audit.Program.{ProgramShape}
use Rattle.qs_plain_laws.specs.audit.Plain.{fresh_handler}
use Rattle.qs_plain.specs.handler.Handlers.{handler_state_at}
use Rattle.qs_plain.specs.handler.Served.{HandlerState}

-- a handler of the code that serves nobody, with room for so many reservations
abbrev pub idle : ProgramShape → ℕ → ℕ → HandlerState
idle p room h = record { queues = []; room = room; held = (fresh_handler p h).held }

pub record AreIdle (p : ProgramShape) (room : ℕ) (hs : List HandlerState) : Type 0 where
  pub many : length hs ≡ length p.objects
  pub each : (h : ℕ) → h < length p.objects → handler_state_at hs h ≡ idle p room h
