-- All that a program can come to: no finished run comes to anything else, and each of it can happen.
use Rattle.std.specs.Prelude.{◌≡◌, ℕ, true, List, ◌++◌}
use Rattle.std.specs.List.{AllByRecursion}
use Rattle.qs_objects.specs.declared.held.Ticket.{Ticket}
use Rattle.qs_program.specs.audit.Program.{ProgramShape}
use Rattle.qs_program.specs.Sound.{IsSound}
use Rattle.qs_meaning.specs.audit.Configurations.{IsComplete}
use Rattle.qs_meaning.specs.Configurations.{outcome_of}
use Rattle.qs_alike.specs.Changes.{Classes}
use Rattle.qs_standings.specs.Lists.{HasOne}
use Rattle.qs_outcomes.specs.alike.AlikeOutcomes.{AlikeShape, AreAlikeOutcomes, BecomesOutcome}
use Rattle.qs_outcomes.specs.Outcomes.{AreAllOutcomes, AreAllOutcomesAfter, AreOutcomesAfter, IsLeast, IsListed, OutcomesShape, outcome_at}
use Rattle.qs_standings.specs.Standings.{StandingShape}
use Rattle.qs_syncset.specs.declared.mode.Mode.{Mode}
use Rattle.qs_played.specs.audit.Played.{Played}
use Rattle.qs_played.specs.declared.schedule.actor.Actor.{Actor}
use Rattle.qs_promises.specs.audit.Finished.{ShowsStates}
use Rattle.qs_promises.specs.audit.Runs.{IsRun, Way, by_rules, on_machine}

-- one of these comes from the order of the run, as its variables and its states say, and its states are what the run
-- shows
abbrev pub IsAmong : ProgramShape → Played → List StandingShape → Type 0
IsAmong p r found = HasOne (λ s. (outcome_at s ≡ outcome_of p r.order) × ShowsStates p r (outcome_at s).states) found

-- The order is complete, and what is shown are the states to which it comes; so wherever all outcomes are listed, or
-- all after a front with which the order begins, one of them is that of the run.
pub record IsCovered (p : ProgramShape) (r : Played) : Type 0 where
  pub complete : IsComplete p r.order
  pub states : ShowsStates p r (outcome_of p r.order).states
  pub listed : (found : List StandingShape) → AreAllOutcomes p found → IsAmong p r found
  pub after : (front rest : List Ticket) → r.order ≡ front ++ rest
      → (found : List StandingShape) → AreAllOutcomesAfter p front found → IsAmong p r found

-- None is missing: every finished run of a checked program, in whichever way it is run, is covered.
abbrev pub FinishedRunsAreCovered : Type 0
FinishedRunsAreCovered =
    (p : ProgramShape) → IsSound p → (way : Way) (r : Played) → IsRun p way r → r.finished ≡ true → IsCovered p r

-- a finished run of the program, in this way, whose order is this one and which is covered
pub record IsReached (p : ProgramShape) (way : Way) (due : List Ticket) (r : Played) : Type 0 where
  pub run : IsRun p way r
  pub order : r.order ≡ due
  pub finished : r.finished ≡ true
  pub covered : IsCovered p r

-- some picks lead the plain rules to the end of this order, without a round after them
abbrev pub RulesReach : ProgramShape → List Ticket → Type 0
RulesReach p order = (picks : List Actor) × ((r : Played) × IsReached p (by_rules picks 0) order r)

-- and some picks lead the optimised machine there, in this mode and with chunks of this size
abbrev pub MachineReaches : ProgramShape → Mode → ℕ → List Ticket → Type 0
MachineReaches p mode size order =
    (picks : List Actor) × ((r : Played) × IsReached p (on_machine mode size picks 0) order r)

-- for every checked program and every complete order of its blocks
abbrev pub RulesReachCompleteOrders : Type 0
RulesReachCompleteOrders =
    (p : ProgramShape) → IsSound p → (order : List Ticket) → IsComplete p order → RulesReach p order

-- and for every mode and every chunk size
abbrev pub MachineReachesCompleteOrders : Type 0
MachineReachesCompleteOrders =
    (p : ProgramShape) → IsSound p → (mode : Mode) (size : ℕ) (order : List Ticket) → IsComplete p order
    → MachineReaches p mode size order

-- It can happen: its variables and its states are those to which the order leads with which it is listed, and some
-- picks lead to the end of this order, under the plain rules, and on the optimised machine in every mode and with every
-- size of chunks.
pub record Happens (p : ProgramShape) (s : StandingShape) : Type 0 where
  pub outcome : outcome_at s ≡ outcome_of p s.order
  pub rules : RulesReach p s.order
  pub machine : (mode : Mode) (size : ℕ) → MachineReaches p mode size s.order

-- What `outcomes` lists, as its clauses `sound` and `least` say it: with an order that comes to it, the least of the
-- reduced ones. And it can happen.
pub record CanHappen (p : ProgramShape) (s : StandingShape) : Type 0 where
  pub listed : IsListed p s
  pub least : IsLeast p s
  pub happens : Happens p s

-- for every checked program and every list of which these clauses hold
abbrev pub ListedOutcomesCanHappen : Type 0
ListedOutcomesCanHappen =
    (p : ProgramShape) → IsSound p → (found : List StandingShape)
    → AllByRecursion (IsListed p) found → AllByRecursion (IsLeast p) found → AllByRecursion (CanHappen p) found

-- A list of what a program can come to after a front. Every finished run whose order begins with the front, in
-- whichever way it is run, comes to one of these; and each of these can happen.
pub record IsWholeList (p : ProgramShape) (front : List Ticket) (found : List StandingShape) : Type 0 where
  pub every : (way : Way) (r : Played) → IsRun p way r → r.finished ≡ true
      → (rest : List Ticket) → r.order ≡ front ++ rest → IsAmong p r found
  pub each : AllByRecursion (Happens p) found

-- for every checked program, every front, and what `outcomes_after` answers
abbrev pub ListsAreOfRuns : Type 0
ListsAreOfRuns =
    (p : ProgramShape) → IsSound p → (front : List Ticket) (all : OutcomesShape) → AreOutcomesAfter p front all
    → IsWholeList p front all.found

-- A list that has one of all outcomes that differ by alike clients in each other's places. What every finished run comes
-- to, in whichever way it is run, becomes one of these by such a change, and the run shows its objects; and each of
-- these can happen.
pub record IsWholeListUpTo (p : ProgramShape) (k : Classes) (found : List StandingShape) : Type 0 where
  pub every : (way : Way) (r : Played) → IsRun p way r → r.finished ≡ true
      → HasOne (λ s. BecomesOutcome k (outcome_of p r.order) (outcome_at s)) found
      × ShowsStates p r (outcome_of p r.order).states
  pub each : AllByRecursion (Happens p) found

-- for every checked program, all classes of alike clients, and what `outcomes_alike` answers
abbrev pub AlikeListsAreOfRuns : Type 0
AlikeListsAreOfRuns =
    (p : ProgramShape) → IsSound p → (k : Classes) (all : AlikeShape) → AreAlikeOutcomes p k all
    → IsWholeListUpTo p k all.found
