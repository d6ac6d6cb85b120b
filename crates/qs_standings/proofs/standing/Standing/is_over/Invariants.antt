use Rattle.std.proofs.Common.{◌<◌, ℕ}
use Rattle.qs_standings.specs.Standings.{HasNext}
use Rattle.qs_standings.proofs.standing.Standing.is_over.Given as goal

abbrev pub invariant-loop-client : goal.invariant-loop-client
invariant-loop-client l = (c : ℕ) → c < l.client → HasNext l.program l.self c → ⊥
