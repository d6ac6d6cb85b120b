use Rattle.std.proofs.Common.{[], ap, cond, subst, sym, ◌∙◌}
use Rattle.qs_steps.proofs.Names.{CoreState, IsPlayedOn, codes_of, core_of, core_played, queues_in, schedule}
use Rattle.qs_core.proofs.CoreCounted.{schedule_counted}
use Rattle.qs_core.proofs.CorePlaying.{schedule_isolated}
use Rattle.qs_steps.proofs.CoreQueuesText.{told_in}
use Rattle.qs_steps.proofs.CoreTelling.{core_steps_on, scheduled_on}
use Rattle.qs_steps.proofs.core_telling.tell.Goals as goal

pub returns : goal.returns
returns c =
    let p = c.args.program.now in
    let mode = c.args.mode in
    let size = c.args.size in
    let picks = c.args.picks.now in
    let rounds = c.args.rounds in
    let wanted = c.args.wanted in
    let s = c.play_steps.new.machine in
    let t = c.queues_of.new.machine in
    let same = c.in_ok-queues.ensures.same in
    let fresh = c.in_ok-core.ensures.fresh in
    let lead = c.in_ok-steps.ensures.lead in
    let on = scheduled_on p mode size picks rounds _ s fresh lead in
    let later = subst (IsPlayedOn p mode size (schedule p picks rounds)) (sym same) on in
    let it = c.in_ok-played in
    record {
      told = told_in p mode size picks rounds wanted s c.in_ok-steps.steps.items c.in_ok-queues.queues.items it.played on
          (c.in_ok-steps.ensures.text ∙ ap (λ l. cond wanted.steps l []) (core_steps_on p mode size picks rounds _ s fresh lead wanted.form))
          (c.in_ok-queues.ensures.text ∙ ap (λ q. cond wanted.queues (queues_in wanted.form q (codes_of s) s.size (core_of s)) []) on.program)
          (it.ensures.shown ∙ ap (λ (x : CoreState). core_played x.program (core_of x)) same);
      isolated = schedule_isolated p mode size picks rounds t it.played later it.ensures.shown it.ensures.isolated;
      counted = schedule_counted p mode size picks rounds t it.played later it.ensures.shown it.ensures.counted;
    }
