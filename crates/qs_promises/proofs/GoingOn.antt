-- A run goes on until it is finished: the laws of both machines are put together. Where nobody has a step it is
-- finished, for else somebody had one.
use Rattle.std.proofs.Common.{◌≡◌, ◌∙◌, ◌⊎◌, inl, inr, ℕ, Bool, true, true≢false, List, Option, None, is_some, sym, ap, subst}
use Rattle.qs_program.specs.audit.Program.{ProgramShape}
use Rattle.qs_program.specs.Sound.{IsSound}
use Rattle.qs_syncset.specs.declared.mode.Mode.{Mode}
use Rattle.qs_played.specs.audit.Played.{Played}
use Rattle.qs_played.specs.audit.Schedule.{schedule}
use Rattle.qs_played.specs.declared.schedule.actor.Actor.{Actor}
use Rattle.qs_plain_laws.specs.audit.Plain.{begin, step}
use Rattle.qs_plain_laws.specs.audit.PlainSchedule.{is_finished, plays}
use Rattle.qs_plain_laws.proofs.progress.Finished.{finished_stay}
use Rattle.qs_plain_laws.proofs.progress.Stuck.{runs_never_stuck}
use Rattle.qs_core_laws.specs.audit.Core.{core_begin, core_step}
use Rattle.qs_core_laws.specs.audit.CoreSchedule.{core_plays}
use Rattle.qs_core_laws.specs.audit.CoreSchedule as machine
use Rattle.qs_core_laws.proofs.progress.Finished.{core_finished_stay}
use Rattle.qs_core_laws.proofs.progress.Stuck.{core_runs_never_stuck}
use Rattle.qs_promises.specs.GoesOn.{GoesOnOrEnds, MachinesGoOn, RulesGoOn, RunGoesOn, RunsGoOn, SomebodyHasStep}
use Rattle.qs_promises.specs.audit.Runs.{IsRun, by_rules, on_machine, on_threads}
use Rattle.qs_promises.proofs.Calls.{over_on_threads}
use Rattle.qs_core_laws.proofs.ProgramCodes.{program_codes}

goes_on : {S : Type 0} (p : ProgramShape) (finished : Bool) (step_of : Actor → Option S)
    → (finished ≡ true) ⊎ SomebodyHasStep p step_of → (finished ≡ true → (a : Actor) → step_of a ≡ None)
    → GoesOnOrEnds p finished step_of
goes_on p finished step_of never_stuck stays = record {
  never_stuck = never_stuck;
  ends = λ nobody. elim never_stuck [
    | inl over ↦ over
    | inr (a, named, some) ↦ absurd (true≢false (sym some ∙ ap is_some (nobody a named)))
  ];
  stays = stays;
}

pub rules_go_on : RulesGoOn
rules_go_on p sound actors =
    goes_on p (is_finished p (plays p actors (begin p))) (step p (plays p actors (begin p)))
    (runs_never_stuck p sound actors)
    (finished_stay p (plays p actors (begin p)))

pub machines_go_on : MachinesGoOn
machines_go_on p sound mode = record {
  codes = program_codes p sound mode;
  each = λ code codes size actors.
      let s = core_plays code size actors (core_begin p) in
      goes_on p (machine.is_finished p s) (core_step code size s)
      (core_runs_never_stuck p sound mode code codes size actors)
      (core_finished_stay p sound mode code codes size actors);
}

rules_run : (p : ProgramShape) → IsSound p → (picks : List Actor) (rounds : ℕ) (r : Played)
    → IsRun p (by_rules picks rounds) r → RunGoesOn p (by_rules picks rounds) r
rules_run p sound picks rounds r (few, named, shows) =
    let s = plays p (schedule p picks rounds) (begin p) in
    subst (λ finished. GoesOnOrEnds p finished (step p s)) (sym (ap (λ r. r.finished) shows))
    (rules_go_on p sound (schedule p picks rounds))

machine_run : (p : ProgramShape) → IsSound p → (mode : Mode) (size : ℕ) (picks : List Actor) (rounds : ℕ) (r : Played)
    → IsRun p (on_machine mode size picks rounds) r → RunGoesOn p (on_machine mode size picks rounds) r
machine_run p sound mode size picks rounds r (few, named, (code, are, shows)) =
    let s = core_plays code size (schedule p picks rounds) (core_begin p) in (
      code,
      are,
      shows,
      subst (λ finished. GoesOnOrEnds p finished (core_step code size s)) (sym (ap (λ r. r.finished) shows))
          ((machines_go_on p sound mode).each code are size (schedule p picks rounds)),
    )

pub runs_go_on : RunsGoOn
runs_go_on p sound (by_rules picks rounds) r run = rules_run p sound picks rounds r run
runs_go_on p sound (on_machine mode size picks rounds) r run = machine_run p sound mode size picks rounds r run
runs_go_on p sound (on_threads mode size) r run = (over_on_threads p mode size r run).finished
