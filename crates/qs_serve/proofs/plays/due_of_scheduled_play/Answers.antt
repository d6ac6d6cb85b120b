use Rattle.std.proofs.Common.{◌≡◌, ◌⊎◌, inr, ℕ, [], refl, ap, sym, subst, ◌∙◌, Ok, Err, if◌then◌else◌}
use Rattle.qs_syncset.specs.audit.Codes.{ClientCode, AreCodes}
use Rattle.qs_core_laws.specs.CoreSchedule.{IsPlayedIn}
use Rattle.qs_core_laws.proofs.progress.Finished.{core_default_rounds_finish}
use Rattle.qs_steps.specs.CoreQueues.{core_queues}
use Rattle.qs_steps.specs.CoreSteps.{core_steps}
use Rattle.qs_steps.specs.Telling.{played_in}
use Rattle.qs_line.specs.audit.Named.{actors_of}
use Rattle.qs_line.specs.audit.Line.{by_schedule, play}
use Rattle.qs_serve.specs.Due.{AreQueuesOfPlay, AreStepsOfPlay, IsDueOfProgram, IsOutOfMemory, form_of}
use Rattle.qs_serve.proofs.Dues.{alone, due_by_lines, due_by_report, lines_where, no_queues, no_steps, of_named, shown_is_legal}
use Rattle.qs_serve.proofs.plays.due_of_scheduled_play.Goals as goal
use Rattle.qs_serve.proofs.plays.due_of_scheduled_play.Goals.{in-Ok-play_told, in-Err-play_told}

pub due_of_told-requires : goal.due_of_told-requires
due_of_told-requires c = record {
  legal = shown_is_legal c.args.program.now c.args.mode c.args.chunk c.as_slice.result.now c.args.rounds c.in-Ok-play_told.told.played c.in-Ok-play_told.ensures.isolated;
}

pub due_of_played-requires : goal.due_of_played-requires
due_of_played-requires c = record {
  legal = shown_is_legal c.args.program.now c.args.mode c.args.chunk c.as_slice-2.result.now c.args.rounds c.in-Ok-play.played c.in-Ok-play.ensures.isolated;
}

pub returns-then-is_told-clause-due : goal.returns-then-is_told-clause-due
returns-then-is_told-clause-due c =
    let p = c.args.program.now in
    let style = c.args.style in
    let mode = c.args.mode in
    let size = c.args.chunk in
    let rounds = c.args.rounds in
    let picks = c.args.picks.now in
    let plan = by_schedule rounds picks in
    let how = form_of style.format in
    let xs = c.as_slice.result.now in
    let named : actors_of p picks ≡ Ok xs = c.in-Ok.ensures.actors ∙ sym (ap (λ xs. Ok xs) c.as_slice.ensures.value) in
    elim c.match-play_told.branch [
      | in-Ok-play_told w ↦
          let told = w.in-Ok-play_told.told in
          let shown : IsPlayedIn p mode size xs rounds (Ok told.played) =
          subst (λ r. IsPlayedIn p mode size xs rounds (played_in r)) w.in-Ok-play_told.is c.play_told.ensures.played in
          let texts = w.in-Ok-play_told.ensures.told in
          let code : ℕ → ClientCode = texts.0 in
          let codes : AreCodes p mode code = texts.1 in
          subst (λ due. IsOutOfMemory due ⊎ IsDueOfProgram (play style mode size plan) [] p due) (sym w.result-is)
          (due_by_lines (play style mode size plan) style p told.steps.items told.queues.items told.played
          w.due_of_told.result
          (λ text e. (
            told.played,
            told.steps.items,
            told.queues.items,
            (
              of_named (λ actors. IsPlayedIn p mode size actors rounds (Ok told.played)) (actors_of p picks) xs named shown,
              core_default_rounds_finish p c.keeps_sound.ensures.sound mode size xs rounds told.played shown,
            ),
            lines_where style.steps (AreStepsOfPlay how mode size plan p) (core_steps how p code size xs rounds) told.steps.items
                (subst (λ f. told.steps.items ≡ (if style.steps then core_steps f p code size xs rounds else [])) c.wanted_by-wanted.ensures.form
                (subst (λ b. told.steps.items ≡ (if b then core_steps c.wanted_by-wanted.result.form p code size xs rounds else []))
                c.wanted_by-wanted.ensures.steps texts.2))
                (of_named (λ actors. (code2 : ℕ → ClientCode) × AreCodes p mode code2
                × (core_steps how p code size xs rounds ≡ core_steps how p code2 size actors rounds)) (actors_of p picks) xs named
                (code, codes, refl)),
            lines_where style.queues (AreQueuesOfPlay how mode size plan p) (core_queues how p code size xs rounds)
                told.queues.items
                (subst (λ f. told.queues.items ≡ (if style.queues then core_queues f p code size xs rounds else [])) c.wanted_by-wanted.ensures.form
                (subst (λ b. told.queues.items ≡ (if b then core_queues c.wanted_by-wanted.result.form p code size xs rounds else []))
                c.wanted_by-wanted.ensures.queues texts.3))
                (of_named (λ actors. (code2 : ℕ → ClientCode) × AreCodes p mode code2
                × (core_queues how p code size xs rounds ≡ core_queues how p code2 size actors rounds)) (actors_of p picks) xs named
                (code, codes, refl)),
            e,
          )) w.due_of_told.ensures.due)
      | in-Err-play_told w ↦
          subst (λ due. IsOutOfMemory due ⊎ IsDueOfProgram (play style mode size plan) [] p due) (sym w.result-is)
          (inr (of_named (λ actors. IsPlayedIn p mode size actors rounds (Err w.in-Err-play_told.fault)) (actors_of p picks)
          xs named
          (subst (λ r. IsPlayedIn p mode size xs rounds (played_in r)) w.in-Err-play_told.is c.play_told.ensures.played)))
    ]

pub returns-in-Ok-play-clause-due : goal.returns-in-Ok-play-clause-due
returns-in-Ok-play-clause-due c =
    let p = c.args.program.now in
    let played = c.in-Ok-play.played in
    let shown : IsPlayedIn p c.args.mode c.args.chunk c.as_slice-2.result.now c.args.rounds (Ok played) =
    subst (λ r. IsPlayedIn p c.args.mode c.args.chunk c.as_slice-2.result.now c.args.rounds r) c.in-Ok-play.is c.play.ensures.played in
    due_by_report (play c.args.style c.args.mode c.args.chunk (by_schedule c.args.rounds c.args.picks.now)) c.args.style p played _
    (λ text e. (
      played,
      [],
      [],
      (
        of_named (λ actors. IsPlayedIn p c.args.mode c.args.chunk actors c.args.rounds (Ok played)) (actors_of p c.args.picks.now)
            c.as_slice-2.result.now (c.in-Ok.ensures.actors ∙ sym (ap (λ xs. Ok xs) c.as_slice-2.ensures.value)) shown,
        core_default_rounds_finish p c.keeps_sound.ensures.sound c.args.mode c.args.chunk c.as_slice-2.result.now c.args.rounds played shown,
      ),
      no_steps c.args.style.steps c.args.style.queues (AreStepsOfPlay (form_of c.args.style.format) c.args.mode c.args.chunk (by_schedule c.args.rounds c.args.picks.now) p) (sym c.is_told.ensures.value ∙ c.if-is_told.false),
      no_queues c.args.style.steps c.args.style.queues (AreQueuesOfPlay (form_of c.args.style.format) c.args.mode c.args.chunk (by_schedule c.args.rounds c.args.picks.now) p) (sym c.is_told.ensures.value ∙ c.if-is_told.false),
      alone text _ e,
    )) c.due_of_played.ensures.due
