-- Whole blocks on the optimised machine, as the code runs them.
use Rattle.std.specs.Prelude.{◌≡◌, ℕ, suc, true, List, [], ◌∷◌, ◌++◌}
use Rattle.qs_meaning.specs.audit.Solo.{put}
use Rattle.qs_played.specs.audit.Schedule.{all_named}
use Rattle.qs_played.specs.declared.schedule.actor.Actor.{Actor}
use Rattle.qs_core_laws.specs.audit.CoreSchedule.{core_plays}
use Rattle.qs_core_laws.specs.orders.CoreQuiet.{IsCoreQuiet}
use Rattle.qs_core.specs.state.CoreState.{CoreState, codes_of, core_of}

-- these actors lead from one to the other, of the same program, codes and chunk size
pub record CoreGoes (old : CoreState) (actors : List Actor) (new : CoreState) : Type 0 where
  pub program : new.program ≡ old.program
  pub size : new.size ≡ old.size
  pub codes : codes_of new ≡ codes_of old
  pub played : core_of new ≡ core_plays (codes_of old) old.size actors (core_of old)

-- how many blocks each client has begun
abbrev pub blocks_begun : CoreState → ℕ → ℕ
blocks_begun s c = ((core_of s).client c).begun

-- nobody is in a block
abbrev pub IsQuietNow : CoreState → Type 0
IsQuietNow s = IsCoreQuiet s.order (blocks_begun s) (core_of s)

-- the next block of a client has run, whole and alone
pub record IsOneBlockOn (old : CoreState) (c : ℕ) (new : CoreState) : Type 0 where
  pub actors : List Actor
  pub named : all_named old.program actors ≡ true
  pub goes : CoreGoes old actors new
  pub quiet : IsCoreQuiet (old.order ++ record { client = c; index = blocks_begun old c }
      ∷ []) (put (blocks_begun old) c (suc (blocks_begun old c))) (core_of new)
