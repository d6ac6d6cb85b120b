-- What a starter was asked before the workers of many runs were started, run by run, and why a tally of these is
-- refused.
use Rattle.std.specs.Prelude.{◌≡◌, ◌<◌, ◌≤◌, ℕ, zero, suc, Bool}
use Rattle.qs_played.specs.declared.fault.RunFault.{RunFault}
use Rattle.qs_played.specs.declared.fault.RunFault.TheVariants.{Memory, Threads}
use Rattle.qs_run.specs.Starts.{IsRefusal, LetAllStart}

-- `Answers` says of a question what the starter was before it, the worker's number, the answer, and what the starter
-- was after it
module _ {S : Type 0} (Answers : S → ℕ → Bool → S → Type 0) where
  -- it was asked for all workers of so many runs, one run after another, and let all of them start
  abbrev pub LetRunsStart : (runs workers : ℕ) → S → S → Type 0
  LetRunsStart zero workers before after = after ≡ before
  LetRunsStart (suc runs) workers before after =
      (next : S) × LetRunsStart runs workers before next × LetAllStart Answers 0 workers next after

  -- A tally of so many runs was refused. For want of memory it was asked for the workers of whole runs alone; else it
  -- let all start of some runs, and the next one was refused for a start.
  abbrev pub IsRefusedTally : (times workers : ℕ) → RunFault → S → S → Type 0
  IsRefusedTally times workers Memory before after =
      (runs : ℕ) × (runs ≤ times) × LetRunsStart runs workers before after
  IsRefusedTally times workers Threads before after =
      (runs : ℕ) × (next : S) × (runs < times) × LetRunsStart runs workers before next
      × IsRefusal Answers workers Threads next after
