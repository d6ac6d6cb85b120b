-- What goes on from what is read so far: nothing where no link stands, and else what is read with one more; the number
-- of steps does not matter, where there are enough. The loops that read sums and conditions stand on it, and so does
-- the proof that every condition is read. The invariant of the loops is `Continues`.
use Rattle.std.proofs.Common.{◌≡◌, ℕ, zero, suc, ◌<◌, List, [], ◌∷◌, ◌++◌, length, refl, ap, ◌∙◌, arith, append_assoc, Bool, Option, Some, None, Ok, Err}
use Rattle.qs_conditions.specs.declared.signs.Placed.{Placed}
use Rattle.qs_conditions.specs.declared.condition.Step.{Step}
use Rattle.qs_conditions.specs.declared.fault.SignFault.{SignFault}
use Rattle.qs_conditions.specs.declared.fault.SignFault.TheVariants.{Form, Memory}
use Rattle.qs_conditions.specs.Conditions.{Tree, steps_of}
use Rattle.qs_conditions.specs.Reading.{Read, ◌>>=◌, with_found, go_on, found, link_by, summand_at, sum_further, chain_at, chain}
use Rattle.qs_conditions.specs.declared.condition.Summand.{Summand}
use Rattle.qs_conditions.specs.Results.{Fails}

-- what goes on from what is read so far, in enough steps
pub record Runs {M : Type 0} (further : M → List Placed → Option (Read M)) (m : M) (ts : List Placed) (read : Read M) : Type 0 where
  pub runs : (n : ℕ) → length ts < n → chain_at further n m ts ≡ read

module _ {M : Type 0} (further : M → List Placed → Option (Read M)) where
  pub chain_is : (m : M) (ts : List Placed) (read : Read M) → Runs further m ts read → chain further m ts ≡ read
  unfolding chain
  chain_is m ts read r = r.runs (suc (length ts)) (omega arith)

  step_at : (n : ℕ) (m : M) (ts : List Placed) (o : Option (Read M)) (read : Read M) → length ts < n → further m ts ≡ o
      → ((k : ℕ) → n ≡ suc k → go_on m ts o (chain_at further k) ≡ read) → chain_at further n m ts ≡ read
  step_at zero m ts o read lt e h = absurd (omega arith)
  step_at (suc n) m ts o read lt e h = rw e (h n refl)

  pub runs_end : (m : M) (ts : List Placed) → further m ts ≡ None → Runs further m ts (Ok (m, ts))
  runs_end m ts e = record { runs = λ n lt. step_at n m ts None (Ok (m, ts)) lt e (λ k is. refl) }

  pub runs_fail : (left : ℕ) (m : M) (ts : List Placed) → further m ts ≡ Some (Err left) → Runs further m ts (Err left)
  runs_fail left m ts e = record { runs = λ n lt. step_at n m ts (Some (Err left)) (Err left) lt e (λ k is. refl) }

  pub runs_on : (m : M) (ts : List Placed) (x : M × List Placed) (read : Read M) → further m ts ≡ Some (Ok x) → length x.1 < length ts → Runs further x.0 x.1 read → Runs further m ts read
  runs_on m ts x read e less r = record { runs = λ n lt. step_at n m ts (Some (Ok x)) read lt e (λ k is. r.runs k (omega (arith, lt, less, is))) }

-- the code has read done and the signs from rest on are left; the whole is what goes on from there
pub record Continues {M : Type 0} (further : M → List Placed → Option (Read M)) (whole : Read M) (done : M) (rest : List Placed) : Type 0 where
  pub continues : (read : Read M) → Runs further done rest read → whole ≡ read

module _ {M : Type 0} (further : M → List Placed → Option (Read M)) where
  pub begins : (m : M) (ts : List Placed) → Continues further (chain further m ts) m ts
  begins m ts = record { continues = λ read r. chain_is further m ts read r }

  pub goes_on : (whole : Read M) (done : M) (rest : List Placed) (x : M × List Placed) → Continues further whole done rest → further done rest ≡ Some (Ok x) → length x.1 < length rest → Continues further whole x.0 x.1
  goes_on whole done rest x h e less = record {
    continues = λ read r. h.continues read (runs_on further done rest x read e less r);
  }

  pub closes : (whole : Read M) (done : M) (rest : List Placed) → Continues further whole done rest → further done rest ≡ None → whole ≡ Ok (done, rest)
  closes whole done rest h e = h.continues (Ok (done, rest)) (runs_end further done rest e)

  pub fails : (whole : Read M) (done : M) (rest : List Placed) (left : ℕ) → Continues further whole done rest → further done rest ≡ Some (Err left) → whole ≡ Err left
  fails whole done rest left h e = h.continues (Err left) (runs_fail further left done rest e)

-- a condition whose steps are added
pub record Added (further : Tree → List Placed → Option (Read Tree)) (whole : Read Tree) (old now : List Step) (rest : List Placed) : Type 0 where
  pub tree : Tree
  pub reading : Continues further whole tree rest
  pub steps : now ≡ old ++ steps_of tree

-- conditions with a sign between them
module _ (part : List Placed → Read Tree) (find : List Placed → Option (List Placed)) (join : Tree → Tree → Tree) (step : Step)
    (joins : (c d : Tree) → steps_of (join c d) ≡ steps_of c ++ steps_of d ++ step ∷ []) where
  abbrev joined : Tree → List Placed → Option (Read Tree)
  joined c ts = with_found (find ts) (λ rest. part rest >>= λ d. Ok (join c d.0, d.1))

  pub added_first : (first : Read Tree) (old now : List Step) (rest : List Placed) → ((c : Tree) × (first ≡ Ok (c, rest)) × (now ≡ old ++ steps_of c))
      → Added joined (first >>= λ x. chain joined x.0 x.1) old now rest
  added_first first old now rest e = record { tree = e.0; reading = rw e.1 (begins joined e.0 rest); steps = e.2 }

  pub added_more : (whole : Read Tree) (old now next last : List Step) (rest after left : List Placed) (d : Tree) → Added joined whole old now rest → find rest ≡ Some after → part after ≡ Ok (d, left) → length left < length rest
      → next ≡ now ++ steps_of d → last ≡ next ++ step ∷ [] → Added joined whole old last left
  added_more whole old now next last rest after left d h e p less steps pushed = record {
    tree = join h.tree d;
    reading = goes_on joined whole h.tree rest (join h.tree d, left) h.reading (rw (e, p) refl) less;
    steps = rw (pushed, steps, h.steps, joins) (ap (λ xs. xs ++ step ∷ []) (append_assoc old (steps_of h.tree) (steps_of d)) ∙ append_assoc old (steps_of h.tree ++ steps_of d) (step ∷ []));
  }

  pub added_ends : (whole : Read Tree) (old now : List Step) (rest : List Placed) → Added joined whole old now rest → find rest ≡ None → (c : Tree) × (whole ≡ Ok (c, rest)) × (now ≡ old ++ steps_of c)
  added_ends whole old now rest h e = (h.tree, closes joined whole h.tree rest h.reading (rw e refl), h.steps)

  pub added_fails : (whole : Read Tree) (old now : List Step) (rest after : List Placed) (fault : SignFault) → Added joined whole old now rest → find rest ≡ Some after → Fails fault (part after) → Fails fault whole
  added_fails whole old now rest after (Form left) h e p = fails joined whole h.tree rest left h.reading (rw (e, p) refl)
  added_fails whole old now rest after Memory h e p = tt

-- summands with signs between them
pub sum_fails : (whole : Read (List Summand)) (done : List Summand) (rest after : List Placed) (negative : Bool) (fault : SignFault) → Continues sum_further whole done rest → found link_by rest ≡ Some (negative, after) → Fails fault (summand_at negative after) → Fails fault whole
sum_fails whole done rest after negative (Form left) h e p = fails sum_further whole done rest left h (rw (e, p) refl)
sum_fails whole done rest after negative Memory h e p = tt
