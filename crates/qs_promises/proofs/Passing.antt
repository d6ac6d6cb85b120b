-- What a list of fronts says of runs: the order of a finished run is complete, so it comes to what an order comes to that
-- goes on from one of the fronts; and the order of a front is legal, so some picks lead there.
use Rattle.std.proofs.Common.{◌≡◌, ◌+◌, ℕ, List, length, sym, subst, arith, length-append}
use Rattle.qs_objects.specs.declared.held.Ticket.{Ticket}
use Rattle.qs_program.specs.audit.Program.{ProgramShape}
use Rattle.qs_program.specs.Sound.{IsSound}
use Rattle.qs_meaning.specs.audit.Configurations.{IsComplete}
use Rattle.qs_meaning.specs.Configurations.{outcome_of}
use Rattle.qs_meaning.specs.Reduced.{IsOutcomeAfter}
use Rattle.qs_meaning.proofs.Each.{each_map}
use Rattle.qs_standings.specs.Lists.{HasOne}
use Rattle.qs_standings.specs.Standings.{StandingShape}
use Rattle.qs_levels.specs.meaning.Fronts.{IsAfter}
use Rattle.qs_levels.proofs.meaning.Reaching.{fronts_cover}
use Rattle.qs_promises.specs.Fronts.{CanBePassed, FrontsAreOfRuns}
use Rattle.qs_promises.proofs.Answering.{machine_comes, rules_come}
use Rattle.qs_promises.proofs.Ending.{finished_covered}

can_be_passed : (p : ProgramShape) → IsSound p → (front : List Ticket) (blocks : ℕ) (s : StandingShape)
    → IsAfter p front blocks s → CanBePassed p front blocks s
can_be_passed p sound front blocks s after =
    let reduced = after.standing.reduced in
    let sum = subst (λ order. length order ≡ length front + blocks) reduced.whole after.long in
    record {
      rest = reduced.rest;
      whole = reduced.whole;
      long = omega (arith, sum, length-append front reduced.rest);
      there = after.standing.stands;
      rules = rules_come p sound s.order after.standing.legal;
      machine = λ mode size. machine_comes p sound mode size s.order after.standing.legal;
    }

pub fronts_of_runs : FrontsAreOfRuns
fronts_of_runs p sound front blocks found are =
    let covering = fronts_cover p sound front blocks found are in
    record {
      every = λ way r run finished rest begins enough.
          let covered = finished_covered p sound way r run finished in
          subst (λ order. HasOne (λ s. IsOutcomeAfter p s.order (outcome_of p order)) found) (sym begins)
          (covering.all rest (subst (IsComplete p) begins covered.complete) enough);
      each = each_map {P = IsAfter p front blocks} {Q = CanBePassed p front blocks} (can_be_passed p sound front blocks) found are.sound;
    }
