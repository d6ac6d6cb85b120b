-- What a list is read as, by its first tokens: nothing where they end it, and else an element and what the rest is read
-- as; the number of steps does not matter, where there are enough. What reads lists, and the proof that every script is
-- read, stand on it.
use Rattle.std.proofs.Common.{◌≡◌, ℕ, zero, suc, ◌<◌, List, [], ◌∷◌, length, refl, ap, arith, Some, None, Ok, Err}
use Rattle.qs_script.specs.declared.tokens.token.Token.{Token}
use Rattle.qs_script.specs.grammar.Reading.{Loop, after, many_at, run, Read, end_at}

-- what a list of tokens is read as, in enough steps
pub record Runs {M : Type 0} (loop : Loop M) (ts : List Token) (read : Read M) : Type 0 where
  pub runs : (n : ℕ) → length ts < n → many_at loop n ts ≡ read

pub run_is : {M : Type 0} (loop : Loop M) (ts : List Token) (read : Read M) → Runs loop ts read → run loop ts ≡ read
unfolding run
run_is loop ts read r = r.runs (suc (length ts)) (omega arith)

stop_at : {M : Type 0} (loop : Loop M) (n : ℕ) (ts rest : List Token) → length ts < n → loop.stop ts ≡ Some rest → many_at loop n ts ≡ Ok (loop.none, rest)
stop_at loop zero ts rest lt e = absurd (omega arith)
stop_at loop (suc n) ts rest lt e = rw e refl

pub runs_stop : {M : Type 0} (loop : Loop M) (ts rest : List Token) → loop.stop ts ≡ Some rest → Runs loop ts (Ok (loop.none, rest))
runs_stop loop ts rest e = record { runs = λ n lt. stop_at loop n ts rest lt e }

no_element_at : {M : Type 0} (loop : Loop M) (n left : ℕ) (ts : List Token) → length ts < n → loop.stop ts ≡ None → loop.element ts ≡ Err left → many_at loop n ts ≡ Err left
no_element_at loop zero left ts lt e s = absurd (omega arith)
no_element_at loop (suc n) left ts lt e s = rw (e, s) refl

pub runs_no_element : {M : Type 0} (loop : Loop M) (left : ℕ) (ts : List Token) → loop.stop ts ≡ None → loop.element ts ≡ Err left → Runs loop ts (Err left)
runs_no_element loop left ts e s = record { runs = λ n lt. no_element_at loop n left ts lt e s }

element_at : {M : Type 0} (loop : Loop M) (n : ℕ) (ts : List Token) (x : M × List Token) (read : Read M) → length ts < n → loop.stop ts ≡ None → loop.element ts ≡ Ok x → length x.1 < length ts → Runs loop x.1 read → many_at loop n ts ≡ after loop x.0 read
element_at loop zero ts x read lt e s less r = absurd (omega arith)
element_at loop (suc n) ts x read lt e s less r = rw (e, s) (ap (after loop x.0) (r.runs n (omega arith)))

pub runs_element : {M : Type 0} (loop : Loop M) (ts : List Token) (x : M × List Token) (read : Read M) → loop.stop ts ≡ None → loop.element ts ≡ Ok x → length x.1 < length ts → Runs loop x.1 read → Runs loop ts (after loop x.0 read)
runs_element loop ts x read e s less r = record { runs = λ n lt. element_at loop n ts x read lt e s less r }

pub before_end : (ts : List Token) → 0 < length ts → end_at ts ≡ None
before_end [] h = absurd (omega arith)
before_end (x ∷ ts) h = refl
