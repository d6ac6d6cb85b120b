-- Actors that are known to have no step.
use Rattle.std.specs.Prelude.{◌≡◌, ℕ, Bool, true, false, List, slice_index_or, slice_set, Option, Some, None}
use Rattle.qs_played.specs.declared.schedule.actor.Actor.{Actor}
use Rattle.qs_played.specs.declared.schedule.actor.Actor.TheVariants as actor
use Rattle.qs_core_laws.specs.audit.Core.{core_step}
use Rattle.qs_core.specs.state.CoreState.{CoreState, codes_of, core_of}

-- a flag for each client, and for each handler
pub record StuckFlags : Type 0 where
  pub clients : List Bool
  pub handlers : List Bool

-- none is set
pub record IsNobody (f : StuckFlags) : Type 0 where
  pub clients : (c : ℕ) → slice_index_or f.clients c false ≡ false
  pub handlers : (h : ℕ) → slice_index_or f.handlers h false ≡ false

-- it has no step
abbrev pub IsStuck : CoreState → Actor → Type 0
IsStuck s a = core_step (codes_of s) s.size (core_of s) a ≡ None

-- where a flag is set, the actor has no step
pub record AreStuck (f : StuckFlags) (s : CoreState) : Type 0 where
  pub clients : (c : ℕ) → slice_index_or f.clients c false ≡ true → IsStuck s (actor.Client c)
  pub handlers : (h : ℕ) → slice_index_or f.handlers h false ≡ true → IsStuck s (actor.Handler h)

-- the flag of the handler of this lane was cleared, or that of every handler where there is no lane
abbrev pub AreWoken : Option ℕ → List Bool → List Bool → Type 0
AreWoken None old new = (h : ℕ) → slice_index_or new h false ≡ false
AreWoken (Some h) old new = new ≡ slice_set old h false

-- the flag of the client of this lane was cleared, or none where there is no lane
abbrev pub IsWoken : Option ℕ → List Bool → List Bool → Type 0
IsWoken None old new = new ≡ old
IsWoken (Some c) old new = new ≡ slice_set old c false
