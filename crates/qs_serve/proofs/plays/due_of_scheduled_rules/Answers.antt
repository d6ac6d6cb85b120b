use Rattle.std.proofs.Common.{◌≡◌, ◌⊎◌, inr, [], refl, ap, sym, subst, ◌∙◌, Ok, Err, if◌then◌else◌}
use Rattle.qs_plain_laws.specs.PlainSchedule.{IsPlayed}
use Rattle.qs_plain_laws.proofs.progress.Finished.{default_rounds_finish}
use Rattle.qs_steps.specs.PlainQueues.{plain_queues}
use Rattle.qs_steps.specs.PlainSteps.{plain_steps}
use Rattle.qs_steps.specs.Telling.{played_in}
use Rattle.qs_line.specs.audit.Named.{actors_of}
use Rattle.qs_line.specs.audit.Line.{by_schedule, rules}
use Rattle.qs_serve.specs.Due.{AreQueuesOfRules, AreStepsOfRules, IsDueOfProgram, IsOutOfMemory, form_of}
use Rattle.qs_serve.proofs.Dues.{alone, due_by_lines, due_by_report, lines_where, no_queues, no_steps, of_named}
use Rattle.qs_serve.proofs.plays.due_of_scheduled_rules.Goals as goal
use Rattle.qs_serve.proofs.plays.due_of_scheduled_rules.Goals.{in-Ok-rules_told, in-Err-rules_told}

pub returns-then-is_told-clause-due : goal.returns-then-is_told-clause-due
returns-then-is_told-clause-due c =
    let p = c.args.program.now in
    let style = c.args.style in
    let rounds = c.args.rounds in
    let picks = c.args.picks.now in
    let plan = by_schedule rounds picks in
    let how = form_of style.format in
    let xs = c.as_slice.result.now in
    let named : actors_of p picks ≡ Ok xs = c.in-Ok.ensures.actors ∙ sym (ap (λ xs. Ok xs) c.as_slice.ensures.value) in
    elim c.match-rules_told.branch [
      | in-Ok-rules_told w ↦
          let told = w.in-Ok-rules_told.told in
          let shown : IsPlayed p xs rounds (Ok told.played) =
          subst (λ r. IsPlayed p xs rounds (played_in r)) w.in-Ok-rules_told.is c.rules_told.ensures.played in
          subst (λ due. IsOutOfMemory due ⊎ IsDueOfProgram (rules style plan) [] p due) (sym w.result-is)
          (due_by_lines (rules style plan) style p told.steps.items told.queues.items told.played w.due_of_told.result
          (λ text e. (
            told.played,
            told.steps.items,
            told.queues.items,
            (
              of_named (λ actors. IsPlayed p actors rounds (Ok told.played)) (actors_of p picks) xs named shown,
              default_rounds_finish p c.keeps_sound.ensures.sound xs rounds told.played shown,
            ),
            lines_where style.steps (AreStepsOfRules how plan p) (plain_steps how p xs rounds) told.steps.items
                (subst (λ f. told.steps.items ≡ (if style.steps then plain_steps f p xs rounds else [])) c.wanted_by-wanted.ensures.form
                (subst (λ b. told.steps.items ≡ (if b then plain_steps c.wanted_by-wanted.result.form p xs rounds else [])) c.wanted_by-wanted.ensures.steps
                w.in-Ok-rules_told.ensures.steps))
                (of_named (λ actors. plain_steps how p xs rounds ≡ plain_steps how p actors rounds) (actors_of p picks) xs named refl),
            lines_where style.queues (AreQueuesOfRules how plan p) (plain_queues how p xs rounds) told.queues.items
                (subst (λ f. told.queues.items ≡ (if style.queues then plain_queues f p xs rounds else [])) c.wanted_by-wanted.ensures.form
                (subst (λ b. told.queues.items ≡ (if b then plain_queues c.wanted_by-wanted.result.form p xs rounds else [])) c.wanted_by-wanted.ensures.queues
                w.in-Ok-rules_told.ensures.queues))
                (of_named (λ actors. plain_queues how p xs rounds ≡ plain_queues how p actors rounds) (actors_of p picks) xs named refl),
            e,
          )) w.due_of_told.ensures.due)
      | in-Err-rules_told w ↦
          subst (λ due. IsOutOfMemory due ⊎ IsDueOfProgram (rules style plan) [] p due) (sym w.result-is)
          (inr (of_named (λ actors. IsPlayed p actors rounds (Err w.in-Err-rules_told.fault)) (actors_of p picks) xs named
          (subst (λ r. IsPlayed p xs rounds (played_in r)) w.in-Err-rules_told.is c.rules_told.ensures.played)))
    ]

pub returns-in-Ok-play_plain-clause-due : goal.returns-in-Ok-play_plain-clause-due
returns-in-Ok-play_plain-clause-due c =
    let p = c.args.program.now in
    let played = c.in-Ok-play_plain.played in
    let shown : IsPlayed p c.as_slice-2.result.now c.args.rounds (Ok played) =
    subst (λ r. IsPlayed p c.as_slice-2.result.now c.args.rounds r) c.in-Ok-play_plain.is c.play_plain.ensures.played in
    due_by_report (rules c.args.style (by_schedule c.args.rounds c.args.picks.now)) c.args.style p played _
    (λ text e. (
      played,
      [],
      [],
      (
        of_named (λ actors. IsPlayed p actors c.args.rounds (Ok played)) (actors_of p c.args.picks.now)
            c.as_slice-2.result.now (c.in-Ok.ensures.actors ∙ sym (ap (λ xs. Ok xs) c.as_slice-2.ensures.value)) shown,
        default_rounds_finish p c.keeps_sound.ensures.sound c.as_slice-2.result.now c.args.rounds played shown,
      ),
      no_steps c.args.style.steps c.args.style.queues (AreStepsOfRules (form_of c.args.style.format) (by_schedule c.args.rounds c.args.picks.now) p) (sym c.is_told.ensures.value ∙ c.if-is_told.false),
      no_queues c.args.style.steps c.args.style.queues (AreQueuesOfRules (form_of c.args.style.format) (by_schedule c.args.rounds c.args.picks.now) p) (sym c.is_told.ensures.value ∙ c.if-is_told.false),
      alone text _ e,
    )) c.due_of_played.ensures.due
