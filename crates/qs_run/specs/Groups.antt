-- Groups of workers that were started together, and what came of a start inside of theirs.
use Rattle.std.specs.Prelude.{◌≡◌, ◌+◌, ℕ, Bool, true, false, [], ◌∷◌, ◌++◌, Option, Some, None, Result, Ok, Err, vec_len, vec_capacity}
use Rattle.qs_run.specs.Starts.{IsRefusedAStart, LetAllStart}
use Rattle.qs_run.specs.declared.start.group.Ended.{Ended}
use Rattle.qs_run.specs.declared.start.group.Group.{Group}

module _ {S W X T : Type 0} where
  -- The second group is the first with one more worker, behind the others.
  pub record HasOneMore (last : W) (rest group : Group S W X T) : Type 0 where
    pub workers : group.workers.items ≡ rest.workers.items ++ last ∷ []
    pub many : vec_len group.workers ≡ vec_len rest.workers + 1
    pub capacity : vec_capacity group.workers ≡ vec_capacity rest.workers
    pub inside : group.inside ≡ rest.inside

-- What came of the start inside of a group's.
abbrev pub inside_of : {S V W A B T : Type 0} → Result (Group S V A T) (Group S W B T)
    → Result (Ended S A T) (Ended S B T)
inside_of (Ok ran) = Ok ran.inside
inside_of (Err held) = Err held.inside

module _ {S A B T : Type 0} where
  -- It was decided at this latch that the workers go if this is what a run gave back, and else that they end.
  abbrev pub IsDecided : (T → ℕ) → (T → Bool) → ℕ → Result (Ended S A T) (Ended S B T) → Type 0
  IsDecided at go latch (Ok ran) = (at ran.decision ≡ latch) × (go ran.decision ≡ true)
  IsDecided at go latch (Err held) = (at held.decision ≡ latch) × (go held.decision ≡ false)

module _ {S V W A B T : Type 0} where
  -- The worker ended as the rest of its group did, and the group has it behind the others.
  abbrev pub IsWith : Result (Group S W A T) (Group S V B T) → Result W V
      → Result (Group S W A T) (Group S V B T) → Type 0
  IsWith (Ok rest) (Ok last) (Ok group) = HasOneMore last rest group
  IsWith (Err rest) (Err last) (Err group) = HasOneMore last rest group
  IsWith _ _ _ = ⊥

module _ {S : Type 0} (Answers : S → ℕ → Bool → S → Type 0) where
  -- It was asked for so many workers, from worker n on. It let all of them start, and then others are started from the
  -- next number on; or it refused a start, and then no others are started.
  abbrev pub WasAsked : ℕ → ℕ → S → Option ℕ → S → Type 0
  WasAsked n many before (Some next) after = (next ≡ n + many) × LetAllStart Answers n many before after
  WasAsked n many before None after = IsRefusedAStart Answers n many before after

  -- It was asked for so many workers from this number on: it let all of them start if they have run, and else refused
  -- a start. With no number it was asked nothing, and they have not run.
  abbrev pub WasAskedFrom : {A B T : Type 0} → Option ℕ → ℕ → S → Result (Ended S A T) (Ended S B T) → Type 0
  WasAskedFrom (Some n) many before (Ok ran) = LetAllStart Answers n many before ran.starter
  WasAskedFrom (Some n) many before (Err held) = IsRefusedAStart Answers n many before held.starter
  WasAskedFrom None many before (Ok ran) = ⊥
  WasAskedFrom None many before (Err held) = held.starter ≡ before
