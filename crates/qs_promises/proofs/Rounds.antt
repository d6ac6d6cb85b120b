-- Enough rounds finish each run, by the laws of both machines. So whatever was picked, the rounds that are still wanted
-- can be picked one actor after another: then the run has finished, and a finished run is covered.
use Rattle.std.proofs.Common.{◌≡◌, ◌<◌, ◌≤◌, ◌+◌, ℕ, zero, suc, true, List, [], append-nil, length, map, refl, sym, ap, subst, arith}
use Rattle.std.proofs.lemmas.Bool.{lt-ltb}
use Rattle.std.specs.List.{range_with_len}
use Rattle.qs_program.specs.audit.Program.{ProgramShape}
use Rattle.qs_program.specs.Sound.{IsSound}
use Rattle.qs_syncset.specs.declared.mode.Mode.{Mode}
use Rattle.qs_played.specs.audit.Played.{Played}
use Rattle.qs_played.specs.audit.Schedule.{actors_of, all_named, most_rounds, names_actor, rounds_of, schedule}
use Rattle.qs_played.specs.declared.schedule.actor.Actor.{Actor}
use Rattle.qs_played.specs.declared.schedule.actor.Actor.TheVariants as actor
use Rattle.qs_plain_laws.specs.audit.Plain.{begin}
use Rattle.qs_plain_laws.specs.audit.PlainSchedule.{played_of, plays}
use Rattle.qs_plain_laws.proofs.orders.AloneSteps.{named_append}
use Rattle.qs_plain_laws.specs.progress.Steps.{most_steps_of}
use Rattle.qs_plain_laws.proofs.progress.Finished.{rounds_finish}
use Rattle.qs_plain_laws.proofs.progress.SmallBounds.{bounds_small}
use Rattle.qs_core_laws.specs.audit.Core.{core_begin}
use Rattle.qs_core_laws.specs.audit.CoreSchedule.{core_played, core_plays}
use Rattle.qs_core_laws.specs.progress.CoreSteps.{most_core_steps_of}
use Rattle.qs_core_laws.proofs.progress.Finished.{core_rounds_finish}
use Rattle.qs_core_laws.proofs.progress.SmallBounds.{core_bounds_small}
use Rattle.qs_promises.specs.EnoughRounds.{DefaultRoundsAreEnough, DefaultRoundsFinish, EnoughRoundsFinish}
use Rattle.qs_promises.specs.EveryBeginning.{EveryBeginningLeadsToAnOutcome}
use Rattle.qs_promises.specs.Outcomes.{IsReached}
use Rattle.qs_promises.specs.audit.Runs.{by_rules, on_machine, on_threads}
use Rattle.qs_core_laws.proofs.ProgramCodes.{program_codes}
use Rattle.qs_promises.proofs.Calls.{over_on_threads, played_in_of_run, played_of_run}
use Rattle.qs_promises.proofs.Ending.{reached}

-- ---- enough rounds

pub enough_finish : EnoughRoundsFinish
enough_finish p sound (by_rules picks rounds) r run enough =
    rounds_finish p sound picks rounds enough r (played_of_run p picks rounds r run)
enough_finish p sound (on_machine mode size picks rounds) r run enough =
    core_rounds_finish p sound mode size picks rounds enough r (played_in_of_run p mode size picks rounds r run)
enough_finish p sound (on_threads mode size) r run enough = absurd enough

machine_few : (p : ProgramShape) → IsSound p → most_core_steps_of p ≤ most_rounds
machine_few p sound = let few = core_bounds_small p sound in omega (arith, few)

rules_few : (p : ProgramShape) → IsSound p → most_steps_of p ≤ most_rounds
rules_few p sound = let few = (bounds_small p sound).rounds in omega (arith, few)

pub default_enough : DefaultRoundsAreEnough
default_enough p sound (by_rules picks rounds) all = subst (λ n. most_steps_of p ≤ n) (sym all) (rules_few p sound)
default_enough p sound (on_machine mode size picks rounds) all =
    subst (λ n. most_core_steps_of p ≤ n) (sym all) (machine_few p sound)
default_enough p sound (on_threads mode size) all = absurd all

pub default_finish : DefaultRoundsFinish
default_finish p sound way r run all = enough_finish p sound way r run (default_enough p sound way all)

-- ---- the rounds name actors of the program

module _ (p : ProgramShape) where
  numbers_named : (f : ℕ → Actor) (many : ℕ) → ((n : ℕ) → n < many → names_actor p (f n) ≡ true)
      → (from n : ℕ) → from + n ≤ many → all_named p (map f (range_with_len from n)) ≡ true
  numbers_named f many named from zero few = refl
  numbers_named f many named from (suc n) few =
      rw (named from (omega (arith, few))) (numbers_named f many named (from + 1) n (omega (arith, few)))

  round_named : all_named p (actors_of p) ≡ true
  round_named =
      named_append p (map actor.Client (range_with_len 0 (length p.clients)))
      (map actor.Handler (range_with_len 0 (length p.objects)))
      (numbers_named actor.Client (length p.clients) (λ n less. lt-ltb n (length p.clients) less) 0
      (length p.clients) (omega arith))
      (numbers_named actor.Handler (length p.objects) (λ n less. lt-ltb n (length p.objects) less) 0
      (length p.objects) (omega arith))

  rounds_named : (n : ℕ) → all_named p (rounds_of n (actors_of p)) ≡ true
  rounds_named zero = refl
  rounds_named (suc n) = named_append p (rounds_of n (actors_of p)) (actors_of p) (rounds_named n) round_named

  pub schedule_named : (picks : List Actor) (n : ℕ) → all_named p picks ≡ true → all_named p (schedule p picks n) ≡ true
  schedule_named picks n named = named_append p picks (rounds_of n (actors_of p)) named (rounds_named n)

-- ---- picks that are so many rounds lead to the end

module _ (p : ProgramShape) (sound : IsSound p) (picks : List Actor) (named : all_named p picks ≡ true) where
  rules_ended : (r : Played) × IsReached p (by_rules (schedule p picks (most_steps_of p)) 0) r.order r
  rules_ended =
      let named_all = schedule_named p picks (most_steps_of p) named in
      let all = schedule p picks (most_steps_of p) in
      let r = played_of p (plays p all (begin p)) in
      let shows = ap (λ actors. played_of p (plays p actors (begin p))) (sym (append-nil all)) in (
        r,
        reached p sound (by_rules all 0) r.order r (omega arith, named_all, shows) refl
            (rounds_finish p sound picks (most_steps_of p) (omega arith) r (played_of_run p picks (most_steps_of p) r (rules_few p sound, named, refl))),
      )

  module _ (mode : Mode) (size : ℕ) where
    machine_ended : (r : Played) × IsReached p (on_machine mode size (schedule p picks (most_core_steps_of p)) 0) r.order r
    machine_ended =
        let named_all = schedule_named p picks (most_core_steps_of p) named in
        let codes = program_codes p sound mode in
        let all = schedule p picks (most_core_steps_of p) in
        let r = core_played p (core_plays codes.0 size all (core_begin p)) in
        let shows = ap (λ actors. core_played p (core_plays codes.0 size actors (core_begin p))) (sym (append-nil all)) in (
          r,
          reached p sound (on_machine mode size all 0) r.order r (omega arith, named_all, (codes.0, codes.1, shows)) refl
              (core_rounds_finish p sound mode size picks (most_core_steps_of p) (omega arith) r
              (played_in_of_run p mode size picks (most_core_steps_of p) r (machine_few p sound, named, (codes.0, codes.1, refl)))),
        )

pub every_beginning : EveryBeginningLeadsToAnOutcome
every_beginning p sound (by_rules picks rounds) begun run = (
  rounds_of (most_steps_of p) (actors_of p),
  rules_ended p sound (schedule p picks rounds) (schedule_named p picks rounds run.1),
)
every_beginning p sound (on_machine mode size picks rounds) begun run = (
  rounds_of (most_core_steps_of p) (actors_of p),
  machine_ended p sound (schedule p picks rounds) (schedule_named p picks rounds run.1) mode size,
)
every_beginning p sound (on_threads mode size) begun run =
    ([], (begun, reached p sound (on_threads mode size) begun.order begun run refl (over_on_threads p mode size begun run).finished))
