use Rattle.std.proofs.Common.{take, sym, subst}
use Rattle.std.proofs.lemmas.List.{take_all}
use Rattle.qs_played.specs.SyncSums.{AreSyncsCounted}
use Rattle.qs_played.proofs.ShownRuns.{if_shown}
use Rattle.qs_core_laws.proofs.Names.{core_played, IsShown}
use Rattle.qs_core.specs.state.CoreState.{IsPlayedOn, IsShownIsolated, core_of}
use Rattle.qs_core.proofs.CoreCounted.{schedule_counted}
use Rattle.qs_core.proofs.CoreGoing.{rounds_played}
use Rattle.qs_core.proofs.CorePlaying.{played_more, schedule_isolated, schedule_shown, take_more}
use Rattle.qs_core.proofs.core_schedules.play_core.Goals as goal

pub loop-pick-preserved : goal.loop-pick-preserved
loop-pick-preserved c =
    let it = c.step-stepped in
    subst (λ xs. IsPlayedOn c.args.program.now c.args.mode c.args.size xs it.new.self) (sym (take_more c.args.picks.now c.loop-pick.pick-index _ c.loop-pick-test.true))
    (played_more c.args.program.now c.args.mode c.args.size (take c.loop-pick.pick-index c.args.picks.now) c.loop-pick.core it.new.self _ it.result c.loop-pick.invariant it.ensures.steps it.ensures.none it.ensures.unchanged)

pub returns : goal.returns
returns c =
    let p = c.args.program.now in
    let mode = c.args.mode in
    let size = c.args.size in
    let picks = c.args.picks.now in
    let rounds = c.args.rounds in
    let s = c.play_rounds.new.self in
    let shown = c.into_played.ensures.shown in
    let picked = subst (λ xs. IsPlayedOn p mode size xs c.loop-pick.core) (take_all c.loop-pick.pick-index picks c.loop-pick-test.false) c.loop-pick.invariant in
    let on = rounds_played p mode size picks rounds c.loop-pick.core s c.play_rounds.ensures.goes picked in
    record {
      shown = if_shown (IsShown p mode size picks rounds) c.into_played.result (core_played s.program (core_of s)) shown (λ played is. schedule_shown p mode size picks rounds s played on is);
      isolated = if_shown (IsShownIsolated p mode size picks rounds) c.into_played.result (core_played s.program (core_of s)) shown
          (λ played is. schedule_isolated p mode size picks rounds s played on is c.into_played.ensures.isolated);
      counted = if_shown (AreSyncsCounted p mode) c.into_played.result (core_played s.program (core_of s)) shown
          (λ played is. schedule_counted p mode size picks rounds s played on is c.into_played.ensures.counted);
    }
