-- Clients before the first step.
use Rattle.std.specs.Prelude.{◌≡◌, ◌<◌, ℕ, List, length}
use Rattle.qs_program.specs.audit.Program.{ProgramShape}
use Rattle.qs_plain.specs.client.Clients.{ClientState, IsFresh, client_state_at}

pub record AreFresh (p : ProgramShape) (cs : List ClientState) : Type 0 where
  pub many : length cs ≡ length p.clients
  pub each : (c : ℕ) → c < length p.clients → IsFresh p c (client_state_at cs c)
