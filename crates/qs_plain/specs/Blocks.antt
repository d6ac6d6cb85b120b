-- Whole blocks under the plain rules, as the code runs them.
use Rattle.std.specs.Prelude.{◌≡◌, ℕ, suc, true, List, [], ◌∷◌, ◌++◌}
use Rattle.qs_meaning.specs.audit.Solo.{put}
use Rattle.qs_played.specs.audit.Schedule.{all_named}
use Rattle.qs_played.specs.declared.schedule.actor.Actor.{Actor}
use Rattle.qs_plain_laws.specs.audit.Plain.{begun_blocks, client_at}
use Rattle.qs_plain_laws.specs.audit.PlainSchedule.{plays}
use Rattle.qs_plain_laws.specs.orders.Quiet.{IsQuiet}
use Rattle.qs_plain.specs.Rules.{RulesState, plain_of}

-- how many blocks each client has begun
abbrev pub blocks_begun : RulesState → ℕ → ℕ
blocks_begun r c = begun_blocks (client_at (plain_of r) c)

-- nobody is in a block
abbrev pub IsQuietNow : RulesState → Type 0
IsQuietNow r = IsQuiet r.program r.order (blocks_begun r) (plain_of r)

-- some actors of the program lead from one to the other
abbrev pub LeadsTo : RulesState → RulesState → Type 0
LeadsTo old new =
    (actors : List Actor) × (all_named old.program actors ≡ true)
    × (plain_of new ≡ plays old.program actors (plain_of old))

-- the next block of a client has run, whole and alone
pub record IsOneBlockOn (old : RulesState) (c : ℕ) (new : RulesState) : Type 0 where
  pub program : new.program ≡ old.program
  pub quiet : IsQuiet old.program (old.order ++ record { client = c; index = blocks_begun old c } ∷ [])
      (put (blocks_begun old) c (suc (blocks_begun old c))) (plain_of new)
  pub leads : LeadsTo old new
