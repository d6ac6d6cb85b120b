-- A client or a handler whose number lies beyond the code's lists has no step in the optimised machine. The contract of
-- `step` asks for this, since the code answers false for such an actor. The machine's invariant says that a client
-- beyond the program has no step, and that a handler beyond it is idle and has no ticket.
use Rattle.std.proofs.Common.{◌≡◌, ◌≤◌, ℕ, length, None, sym, subst, arith}
use Rattle.qs_played.specs.declared.schedule.actor.Actor.{Actor}
use Rattle.qs_played.specs.declared.schedule.actor.Actor.TheVariants as actor
use Rattle.qs_core_laws.specs.audit.Core.{core_step}
use Rattle.qs_core_laws.specs.CoreReached.{ReachedCore}
use Rattle.qs_core.specs.state.CoreState.{CoreKeeps, CoreState, IsCoreState, codes_of, core_of}

module _ (r s : CoreState) (view : r ≡ s) (kept : IsCoreState r) (keeps : CoreKeeps s) (a : Actor) where
  abbrev HasNone : CoreState → Type 0
  HasNone y = core_step (codes_of y) y.size (core_of y) a ≡ None

  keeps_here : CoreKeeps r
  keeps_here = subst CoreKeeps (sym view) keeps

  pub absent_client : (c : ℕ) → a ≡ actor.Client c → length r.clients ≤ c → HasNone s
  unfolding ReachedCore
  absent_client c is out = grind (arith, kept)

  pub absent_handler : (h : ℕ) → a ≡ actor.Handler h → length r.handlers ≤ h → HasNone s
  unfolding ReachedCore
  absent_handler h is out = grind (arith, kept)
