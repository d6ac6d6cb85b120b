-- What a played run shows fits its program, and the order of its tickets is legal. The function `played`, which plays
-- the runs whose blocks are compared, promises both. Each is a part of the isolation that playing promises, taken from
-- it by cases on the result.
use Rattle.std.proofs.Common.{ℕ, List, Result, Ok, Err}
use Rattle.std.specs.Prelude.{IfOk, IfSome}
use Rattle.std.specs.Result.{result_ok}
use Rattle.qs_program.specs.audit.Program.{ProgramShape}
use Rattle.qs_meaning.specs.audit.Serial.{IsLegal}
use Rattle.qs_syncset.specs.declared.mode.Mode.{Mode}
use Rattle.qs_core.specs.state.CoreState.{IsShownIsolated}
use Rattle.qs_played.specs.Isolation.{IsFitting, IsIsolated}
use Rattle.qs_played.specs.audit.Played.{Played}
use Rattle.qs_played.specs.declared.schedule.actor.Actor.{Actor}
use Rattle.qs_played.specs.declared.fault.PlayFault.{PlayFault}

module _ (p : ProgramShape) (mode : Mode) (size : ℕ) (picks : List Actor) (rounds : ℕ) where
  pub shown_fits : (r : Result Played PlayFault) → IfOk r (IsShownIsolated p mode size picks rounds) → IfSome (result_ok r) (IsFitting p)
  unfolding IsShownIsolated IsIsolated
  shown_fits (Ok played) is = is.3.fits
  shown_fits (Err f) is = tt

  pub shown_is_legal : (r : Result Played PlayFault) → IfOk r (IsShownIsolated p mode size picks rounds)
      → IfSome (result_ok r) (λ played. IsLegal p played.order)
  unfolding IsShownIsolated IsIsolated
  shown_is_legal (Ok played) is = is.3.legal
  shown_is_legal (Err f) is = tt
