use Rattle.std.proofs.Common.{ap, sym, subst, ◌∙◌, Ok}
use Rattle.qs_core_laws.specs.CoreSchedule.{IsPlayedIn}
use Rattle.qs_core_laws.proofs.progress.Finished.{core_default_rounds_finish}
use Rattle.qs_syncset.specs.declared.mode.Mode.TheVariants.{Both}
use Rattle.qs_line.specs.audit.Named.{actors_of}
use Rattle.qs_serve.specs.Due.{default_chunk}
use Rattle.qs_serve.proofs.Dues.{of_named, shown_is_legal}
use Rattle.qs_serve.proofs.SyncDues.{due_by_shown}
use Rattle.qs_serve.proofs.syncs.due_of_scheduled_syncs.Goals as goal

pub returns-in-Ok-play-clause-due : goal.returns-in-Ok-play-clause-due
returns-in-Ok-play-clause-due c =
    let p = c.args.program.now in
    let played = c.in-Ok-play.played in
    let xs = c.as_slice.result.now in
    let rounds = c.args.rounds in
    let size = c.default_size-size.ensures.size in
    let shown : IsPlayedIn p Both default_chunk xs rounds (Ok played) =
    subst (λ n. IsPlayedIn p Both n xs rounds (Ok played)) size
    (subst (λ r. IsPlayedIn p Both c.default_size-size.result xs rounds r) c.in-Ok-play.is c.play.ensures.played) in
    due_by_shown c.args.format p rounds c.args.picks.now played _
    (shown_is_legal p Both c.default_size-size.result xs rounds played c.in-Ok-play.ensures.isolated) (
      of_named (λ actors. IsPlayedIn p Both default_chunk actors rounds (Ok played)) (actors_of p c.args.picks.now) xs
          (c.in-Ok.ensures.actors ∙ sym (ap (λ ys. Ok ys) c.as_slice.ensures.value)) shown,
      core_default_rounds_finish p c.keeps_sound.ensures.sound Both default_chunk xs rounds played shown,
    ) c.due_of_shown.ensures.due
