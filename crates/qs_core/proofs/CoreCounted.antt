-- The synchronisations of every state that the optimised machine can be stepped to are counted exactly, and so are
-- those that a schedule shows. The contracts of `step`, `keeps_counted`, `into_played` and `play_core` promise it. A
-- state that was reached is where some list of actors leads, and the law `core_syncs_counted` speaks of every such
-- list.
use Rattle.std.proofs.Common.{◌≡◌, ℕ, List, sym, subst, rules}
use Rattle.qs_played.proofs.Names.{ProgramShape, IsSound, schedule, Played}
use Rattle.qs_played.specs.declared.schedule.actor.Actor.{Actor}
use Rattle.qs_core_laws.proofs.Names.{Mode, core_played}
use Rattle.qs_played.specs.SyncSums.{AreSyncsCounted}
use Rattle.qs_core_laws.proofs.CoreSyncs.{core_syncs_counted}
use Rattle.qs_core.specs.state.CoreState.{CoreState, IsPlayedOn, IsReachedCore, codes_of, core_of, CoreIsCounted}

pub core_is_counted : (s : CoreState) → IsSound s.program → IsReachedCore s → CoreIsCounted s
core_is_counted s sound reached mode codes =
    subst (λ x. AreSyncsCounted s.program mode (core_played s.program x)) (sym reached.1)
    (core_syncs_counted s.program sound mode (codes_of s) codes s.size reached.0)

-- what is shown after the whole schedule
pub schedule_counted : (p : ProgramShape) (mode : Mode) (size : ℕ) (picks : List Actor) (rounds : ℕ) (s : CoreState) (played : Played)
    → IsPlayedOn p mode size (schedule p picks rounds) s → played ≡ core_played s.program (core_of s) → CoreIsCounted s → AreSyncsCounted p mode played
schedule_counted p mode size picks rounds s played on is counted = search rules
