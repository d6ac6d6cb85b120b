use Rattle.std.proofs.Common.{◌≡◌, ◌∙◌, ◌<◌, sym, subst, get_or, arith}
use Rattle.qs_played.proofs.Names.{length-map, Result, IfOk, IsLegal, schedule, Played}
use Rattle.qs_played.specs.Isolation.{IsIsolated}
use Rattle.qs_plain.proofs.Names.{if_shown, IsOrdered, ordered_begin, ordered_plays, tickets_begun, client_of_state, plain_of}
use Rattle.qs_plain_laws.proofs.Names.{commands_in_queue, begin, begun_blocks, played_of, plays}
use Rattle.qs_plain_laws.specs.PlainSchedule.{scheduled}
use Rattle.qs_plain_laws.specs.PlainSyncSums.{AreQueriesCounted}
use Rattle.qs_plain_laws.proofs.Isolating.{runs_isolated}
use Rattle.qs_plain_laws.proofs.PlainSyncs.{plain_syncs_counted}
use Rattle.qs_plain.proofs.Playing.{plays-schedule, shown-as}
use Rattle.qs_plain.proofs.ReadingOff.{at_client}
use Rattle.qs_plain.proofs.schedules.play.Goals as goal

pub into_played-requires : goal.into_played-requires
into_played-requires c = λ i d less.
    let p = c.args.program.now in
    let old = c.loop-pick in
    let s = c.play_rounds.new.self in
    let t = get_or s.order i d in
    let there = plays-schedule p c.args.picks.now old.pick-index c.args.rounds old.rules s (begin p) c.loop-pick-test.false old.invariant.program old.invariant.value c.play_rounds.ensures.rounds in
    let all = subst (IsOrdered p) (sym there) (ordered_plays p (begin p) (schedule p c.args.picks.now c.args.rounds) (ordered_begin p)) in
    let found = tickets_begun p (plain_of s) all i d less in (
      omega (arith, found.0, length-map s.clients client_of_state),
      subst (λ it. t.index < begun_blocks it) (sym (at_client s.clients t.client)) found.1,
    )

of_shown : {E : Type 0} (P : Played → Type 0) (result : Result Played E) (shown : Played) → IfOk result (λ played. played ≡ shown) → P shown → IfOk result P
of_shown P result shown is holds = if_shown P result shown is (λ played same. subst P (sym same) holds)

pub returns : goal.returns
unfolding scheduled
returns c =
    let p = c.args.program.now in
    let old = c.loop-pick in
    let s = c.play_rounds.new.self in
    let there = plays-schedule p c.args.picks.now old.pick-index c.args.rounds old.rules s (begin p) c.loop-pick-test.false old.invariant.program old.invariant.value c.play_rounds.ensures.rounds in
    let actors = schedule p c.args.picks.now c.args.rounds in
    let last = plays p actors (begin p) in
    let shown = shown-as c.into_played.result p last s (c.play_rounds.ensures.program ∙ old.invariant.program) there c.into_played.ensures.shown in
    record {
      played = shown;
      legal = of_shown (λ (played : Played). IsLegal p played.order) c.into_played.result (played_of p last) shown (ordered_plays p (begin p) actors (ordered_begin p)).legal;
      isolated = of_shown (λ (played : Played). IsIsolated p played (commands_in_queue last)) c.into_played.result (played_of p last) shown (runs_isolated p c.keeps_sound.ensures.sound actors);
      counted = of_shown (AreQueriesCounted p last) c.into_played.result (played_of p last) shown (plain_syncs_counted p c.keeps_sound.ensures.sound actors);
    }
