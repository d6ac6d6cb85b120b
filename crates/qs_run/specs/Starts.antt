-- What a starter was asked before the workers of a run were started, one after another by their numbers, and what it
-- answered.
use Rattle.std.specs.Prelude.{◌≡◌, ◌+◌, ◌<◌, ℕ, suc, Bool, true, List, [], ◌∷◌, ◌++◌, length, replicate}
use Rattle.qs_program.specs.audit.Program.{ProgramShape}
use Rattle.qs_played.specs.declared.fault.RunFault.{RunFault}
use Rattle.qs_played.specs.declared.fault.RunFault.TheVariants.{Memory, Threads}

-- A run has a worker for each object, its handler, and one for each client.
abbrev pub worker_count : ProgramShape → ℕ
worker_count p = length p.objects + length p.clients

-- `Answers` says of a question what the starter was before it, the worker's number, the answer, and what the starter
-- was after it
module _ {S : Type 0} (Answers : S → ℕ → Bool → S → Type 0) where
  -- It was asked for worker n and those after it, one after another, and has answered so; this is what it was before
  -- and after.
  abbrev pub AreAnswers : ℕ → List Bool → S → S → Type 0
  AreAnswers n [] before after = after ≡ before
  AreAnswers n (b ∷ bs) before after = (next : S) × Answers before n b next × AreAnswers (suc n) bs next after

  -- It was asked for each of so many workers, from worker n on, and let all of them start.
  abbrev pub LetAllStart : ℕ → ℕ → S → S → Type 0
  LetAllStart n many before after = AreAnswers n (replicate many true) before after

  -- It was asked for some of so many workers, from worker n on. It let all of them start but the last, or also the
  -- last, whose thread could not be started.
  abbrev pub IsRefusedAStart : ℕ → ℕ → S → S → Type 0
  IsRefusedAStart n many before after =
      (k : ℕ) × (last : Bool) × (k < many) × AreAnswers n (replicate k true ++ last ∷ []) before after

  -- A run of so many workers was refused. For want of memory it was before the first question; else a start was
  -- refused.
  abbrev pub IsRefusal : ℕ → RunFault → S → S → Type 0
  IsRefusal many Memory before after = after ≡ before
  IsRefusal many Threads before after = IsRefusedAStart 0 many before after
