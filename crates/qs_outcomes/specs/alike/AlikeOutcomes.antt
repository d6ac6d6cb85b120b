-- What the list of a program's outcomes says that has one of all changes of alike clients.
use Rattle.std.specs.Prelude.{◌≡◌, ℕ, List, [], length}
use Rattle.std.specs.List.{AllByRecursion, AllZip, sum}
use Rattle.qs_program.specs.audit.Program.{ProgramShape}
use Rattle.qs_meaning.specs.audit.Configurations.{IsComplete}
use Rattle.qs_meaning.specs.Configurations.{IsProgramOutcome, OrderOutcome, outcome_of}
use Rattle.qs_standings.specs.Lists.{HasOne, NoTwo}
use Rattle.qs_standings.specs.Standings.{StandingShape}
use Rattle.qs_alike.specs.Changes.{AreClasses, Change, Classes, IsChange, changed_outcome}
use Rattle.qs_alike.specs.Followed.{only_reduced}
use Rattle.qs_outcomes.specs.LeastOrders.{AreSorted, IsLeastUpTo}
use Rattle.qs_outcomes.specs.Outcomes.{AreOutcomes, HasPlaces, OutcomesShape, outcome_at}
use Rattle.qs_outcomes.specs.Reached.{HasReached}

-- what was found, how many outcomes each of them stands for, and how many configurations there are, but for changes
pub record AlikeShape : Type 0 where
  pub found : List StandingShape
  pub counts : List ℕ
  pub configurations : ℕ

-- what an outcome becomes by some change
abbrev pub BecomesOutcome : Classes → OrderOutcome → OrderOutcome → Type 0
BecomesOutcome k a b = (x : Change) × IsChange k x × (b ≡ changed_outcome x a)

-- what an outcome becomes by changes of alike clients: all of these, each once
pub record AreChangesOf (k : Classes) (o : OrderOutcome) (all : List OrderOutcome) : Type 0 where
  pub sound : AllByRecursion (BecomesOutcome k o) all
  pub complete : (x : Change) → IsChange k x → HasOne (λ b. b ≡ changed_outcome x o) all
  pub once : NoTwo ◌≡◌ all

-- there are so many of them
abbrev pub StandsFor : Classes → OrderOutcome → ℕ → Type 0
StandsFor k o count = (all : List OrderOutcome) × AreChangesOf k o all × (length all ≡ count)

-- its order is complete, and comes to what it holds
pub record IsEnd (p : ProgramShape) (s : StandingShape) : Type 0 where
  pub complete : IsComplete p s.order
  pub outcome : outcome_at s ≡ outcome_of p s.order
  pub places : HasPlaces p s

-- each outcome of the program becomes one of these
abbrev pub AreAllBecoming : ProgramShape → Classes → List StandingShape → Type 0
AreAllBecoming p k found =
    (o : OrderOutcome) → IsProgramOutcome p o → HasOne (λ s. BecomesOutcome k o (outcome_at s)) found

-- none of these becomes another
abbrev pub NoneBecome : Classes → List StandingShape → Type 0
NoneBecome k found = NoTwo (λ s t. BecomesOutcome k (outcome_at s) (outcome_at t)) found

-- for each standing the number of outcomes that its own becomes
abbrev pub AreCounted : Classes → List StandingShape → List ℕ → Type 0
AreCounted k found counts = AllZip (λ s count. StandsFor k (outcome_at s) count) found counts

-- Each that is listed is an end, each outcome becomes one of them, and none of them becomes another. Each has the least of
-- the followed orders that lead to what becomes it, and they stand in the order of these. For each it is said how many
-- outcomes it becomes; and followed orders lead to so many configurations, but for changes.
pub record AreAlikeOutcomes (p : ProgramShape) (k : Classes) (all : AlikeShape) : Type 0 where
  pub sound : AllByRecursion (IsEnd p) all.found
  pub complete : AreAllBecoming p k all.found
  pub once : NoneBecome k all.found
  pub least : AllByRecursion (IsLeastUpTo p k []) all.found
  pub sorted : AreSorted all.found
  pub counted : AreCounted k all.found all.counts
  pub reached : HasReached p k only_reduced [] all.configurations

-- The counts add up to how many outcomes the program has.
abbrev pub CountsAreAll : Type 0
CountsAreAll =
    (p : ProgramShape) (k : Classes) → AreClasses p k → (full : OutcomesShape) → AreOutcomes p full
    → (alike : AlikeShape) → AreAlikeOutcomes p k alike → length full.found ≡ sum alike.counts
