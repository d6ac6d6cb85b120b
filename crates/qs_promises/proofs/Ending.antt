-- A finished run that is isolated shows what the serial run of its order leaves, and this order is complete; so what
-- the run shows is an outcome of the program. What is left to say is that an outcome to which the order comes has the
-- states that the order leaves. That each complete order is reached follows from the law that each legal order is
-- played one block after another; and each outcome that is listed has a complete order. So a list of all of them is one
-- of all finished runs.
use Rattle.std.proofs.Common.{refl, subst, ◌++◌, ◌≡◌, ◌∙◌, ℕ, true, List, sym, ap}
use Rattle.qs_objects.specs.declared.Request.{Request}
use Rattle.qs_objects.specs.declared.held.Ticket.{Ticket}
use Rattle.qs_program.specs.audit.Program.{ProgramShape}
use Rattle.qs_program.specs.Sound.{IsSound}
use Rattle.qs_meaning.specs.audit.Configurations.{IsComplete}
use Rattle.qs_meaning.specs.Configurations.{OrderOutcome, outcome_of}
use Rattle.qs_meaning.proofs.Each.{each_both, each_map}
use Rattle.qs_meaning.proofs.Orders.{configurations_follow_orders}
use Rattle.qs_standings.specs.Lists.{HasOne}
use Rattle.qs_outcomes.specs.alike.AlikeOutcomes.{IsEnd}
use Rattle.qs_outcomes.specs.Outcomes.{IsLeast, IsListed, IsListedAfter, outcome_at}
use Rattle.qs_standings.specs.Standings.{StandingShape}
use Rattle.qs_standings.proofs.Lists.{has_map}
use Rattle.qs_played.specs.Isolation.{IsIsolated}
use Rattle.qs_played.specs.audit.Played.{Played}
use Rattle.qs_plain_laws.proofs.orders.BlockReached.{orders_played}
use Rattle.qs_core_laws.proofs.orders.BlocksPlayed.{core_orders_played}
use Rattle.qs_promises.specs.audit.Finished.{IsWholeRun, ShowsStates}
use Rattle.qs_promises.specs.Finished.{FinishedRunsAreWhole}
use Rattle.qs_promises.specs.Outcomes.{AlikeListsAreOfRuns, CanHappen, FinishedRunsAreCovered, Happens, IsAmong, IsCovered, ListedOutcomesCanHappen, IsReached, ListsAreOfRuns, MachineReachesCompleteOrders, RulesReachCompleteOrders}
use Rattle.qs_promises.specs.audit.Runs.{IsRun, Way, by_rules, on_machine}
use Rattle.qs_core_laws.proofs.ProgramCodes.{program_codes}
use Rattle.qs_promises.proofs.Calls.{run_of_played, run_of_played_in}
use Rattle.qs_promises.proofs.Done.{EndsWhole, ends_whole}
use Rattle.qs_promises.proofs.Isolating.{all_isolated}

isolated_whole : (p : ProgramShape) (r : Played) (waits : ℕ → Ticket → List Request) → IsIsolated p r waits
    → r.finished ≡ true → EndsWhole p r → IsWholeRun p r
unfolding IsIsolated
isolated_whole p r waits isolated finished ends =
    let whole = isolated.finished finished in
    record {
      complete = record { legal = isolated.legal; once = whole.once };
      done = ends isolated.legal finished;
      states = λ h within. whole.states h within
          ∙ ap (λ (o : OrderOutcome). o.states h) (sym (configurations_follow_orders p r.order isolated.legal));
    }

pub finished_whole : FinishedRunsAreWhole
finished_whole p sound way r run finished =
    let x = all_isolated p sound way r run in isolated_whole p r x.0 x.1 finished (ends_whole p sound way r run)

-- an outcome to which the run's order comes is that of the run
among : (p : ProgramShape) (r : Played) → ShowsStates p r (outcome_of p r.order).states
    → (order : List Ticket) → r.order ≡ order
    → (found : List StandingShape) → HasOne (λ s. outcome_at s ≡ outcome_of p order) found → IsAmong p r found
among p r states order is found has =
    has_map
    (λ s same.
    let mine : outcome_at s ≡ outcome_of p r.order = same ∙ ap (outcome_of p) (sym is) in
    (mine, λ h within. states h within ∙ ap (λ x. x.states h) (sym mine)))
    found has

whole_covered : (p : ProgramShape) (r : Played) → IsWholeRun p r → IsCovered p r
whole_covered p r whole =
    let states : ShowsStates p r (outcome_of p r.order).states =
    λ h within. whole.states h within
    ∙ ap (λ (o : OrderOutcome). o.states h) (configurations_follow_orders p r.order whole.complete.legal) in
    record {
      complete = whole.complete;
      states = states;
      listed = λ found all. among p r states r.order refl found (all r.order whole.complete);
      after = λ front rest begins found all.
          among p r states (front ++ rest) begins found (all rest (subst (IsComplete p) begins whole.complete));
    }

pub finished_covered : FinishedRunsAreCovered
finished_covered p sound way r run finished = whole_covered p r (finished_whole p sound way r run finished)

pub reached : (p : ProgramShape) → IsSound p → (way : Way) (order : List Ticket) (r : Played) → IsRun p way r → r.order ≡ order → r.finished ≡ true
    → IsReached p way order r
reached p sound way order r run is finished =
    record { run = run; order = is; finished = finished; covered = finished_covered p sound way r run finished }

pub rules_reach : RulesReachCompleteOrders
rules_reach p sound order complete =
    let found = orders_played p sound order complete.legal in
    let shown = found.1 in
    let run = run_of_played p shown.picks 0 found.0 shown.played in
    (shown.picks, (found.0, reached p sound (by_rules shown.picks 0) order found.0 run shown.order (shown.finished complete)))

pub machine_reaches : MachineReachesCompleteOrders
machine_reaches p sound mode size order complete =
    let codes = program_codes p sound mode in
    let found = core_orders_played p sound mode codes.0 codes.1 size order complete.legal in
    let shown = found.1 in
    let run = run_of_played_in p mode size shown.picks 0 found.0 shown.played in
    (shown.picks, (found.0, reached p sound (on_machine mode size shown.picks 0) order found.0 run shown.order (shown.finished complete)))

happens : (p : ProgramShape) → IsSound p → (s : StandingShape) → IsComplete p s.order → outcome_at s ≡ outcome_of p s.order → Happens p s
happens p sound s complete outcome = record {
  outcome = outcome;
  rules = rules_reach p sound s.order complete;
  machine = λ mode size. machine_reaches p sound mode size s.order complete;
}

pub listed_happen : ListedOutcomesCanHappen
listed_happen p sound found listed least =
    each_both {P = IsListed p} {Q = IsLeast p} {R = CanHappen p}
    (λ s is least. record { listed = is; least = least; happens = happens p sound s is.complete is.outcome }) found listed least

pub lists_of_runs : ListsAreOfRuns
lists_of_runs p sound front all are = record {
  every = λ way r run finished rest begins.
      (finished_covered p sound way r run finished).after front rest begins all.found are.complete;
  each = each_map {P = IsListedAfter p front} {Q = Happens p} (λ s listed. happens p sound s listed.complete listed.outcome) all.found
      are.sound;
}

pub alike_lists_of_runs : AlikeListsAreOfRuns
alike_lists_of_runs p sound k all are = record {
  every = λ way r run finished.
      let covered = finished_covered p sound way r run finished in
      (are.complete (outcome_of p r.order) (r.order, covered.complete, refl), covered.states);
  each = each_map {P = IsEnd p} {Q = Happens p} (λ s end. happens p sound s end.complete end.outcome) all.found are.sound;
}
