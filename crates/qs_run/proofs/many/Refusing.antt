-- What a starter was asked by some runs and one more, and why a tally is refused.
use Rattle.std.proofs.Common.{◌≡◌, ◌<◌, ◌≤◌, ℕ, Bool, Result, arith, rules}
use Rattle.std.specs.Prelude.{IfErr, IsErrAnd}
use Rattle.qs_run.proofs.Names.{IsRefusal, IsRefusedTally, LetRunsStart, RunFault}
use Rattle.qs_played.specs.declared.fault.RunFault.TheVariants.{Memory}

module _ {S : Type 0} (Answers : S → ℕ → Bool → S → Type 0) where
  -- a run was refused
  run_refused : (times workers runs : ℕ) (fault : RunFault) (before next after : S) → runs < times → LetRunsStart Answers runs workers before next → IsRefusal Answers workers fault next after
      → IsRefusedTally Answers times workers fault before after
  run_refused times workers runs v before next after less w is = grind arith

  pub run_told : {T : Type 0} (r : Result T RunFault) (times workers runs : ℕ) (fault : RunFault) (before next after : S) → IsErrAnd r (λ f. f ≡ fault) → runs < times
      → LetRunsStart Answers runs workers before next → IsRefusal Answers workers fault next after → IfErr r (λ f. IsRefusedTally Answers times workers f before after)
  run_told v times workers runs fault before next after told less w is = search (rules, run_refused)

  -- an allocation failed
  pub memory_told : {T : Type 0} (r : Result T RunFault) (times workers runs : ℕ) (before after : S) → IsErrAnd r (λ f. f ≡ Memory) → runs ≤ times
      → LetRunsStart Answers runs workers before after → IfErr r (λ f. IsRefusedTally Answers times workers f before after)
  memory_told v times workers runs before after told few w = search rules
