-- How the answers of a starter add up: its answer for the next worker, and then its answers for those after it. They
-- are wanted at each turn of the recursion that starts the workers. And what a lent starter has answered is what the
-- starter itself has.
use Rattle.std.proofs.Common.{◌≡◌, ◌+◌, ◌<◌, ℕ, zero, suc, Bool, true, List, [], ◌∷◌, ◌++◌, Option, Some, None, Result, Ok, Err, refl, ap, subst, arith, rules}
use Rattle.std.specs.Prelude.{IfErr, IfOk, replicate}
use Rattle.qs_run.proofs.Names.{AreAnswers, IsRefusal, IsRefusedAStart, LetAllStart, RunFault, WasAsked, WasAskedFrom}
use Rattle.qs_run.specs.declared.start.group.Ended.{Ended}

module _ {S : Type 0} (Answers : S → ℕ → Bool → S → Type 0) where
  -- the start of the next worker was refused
  pub refused_here : (n many : ℕ) (b : Bool) (before after : S) → Answers before n b after → 0 < many → IsRefusedAStart Answers n many before after
  refused_here n many b before after answer some = (0, b, some, (after, answer, refl))

  -- the next worker may start, and so may all after it
  pub one_more_starts : (n many all : ℕ) (b : Bool) (before next after : S) → all ≡ many + 1 → b ≡ true → Answers before n b next
      → LetAllStart Answers (n + 1) many next after → LetAllStart Answers n all before after
  one_more_starts n many all b before next after count granted answer rest = grind arith

  -- the next worker may start, and the start of one after it was refused
  pub refused_later : (n many all : ℕ) (b : Bool) (before next after : S) → all ≡ many + 1 → b ≡ true → Answers before n b next
      → IsRefusedAStart Answers (n + 1) many next after → IsRefusedAStart Answers n all before after
  refused_later n many all b before next after count granted answer rest =
      let later : n + 1 ≡ suc n = omega arith in
      let answers : AreAnswers Answers (suc n) (replicate rest.0 true ++ rest.1 ∷ []) next after =
      subst (λ m. AreAnswers Answers m (replicate rest.0 true ++ rest.1 ∷ []) next after) later rest.3 in
      (suc rest.0, rest.1, omega (arith, count, rest.2), (next, subst (λ it. Answers before n it next) granted answer, answers))

  -- the next worker may start, and so the starter was asked for the others as it was after that
  pub asked_one_more : (n many all : ℕ) (b : Bool) (before next after : S) (from : Option ℕ) → all ≡ many + 1 → b ≡ true → Answers before n b next
      → WasAsked Answers (n + 1) many next from after → WasAsked Answers n all before from after
  asked_one_more n many all b before next after None count granted answer rest = refused_later n many all b before next after count granted answer rest
  asked_one_more n many all b before next after (Some at) count granted answer rest = grind (arith, one_more_starts)

  -- the workers of a group were let start, and then the others inside of them were or were not, as P says
  inside_too : (P : ℕ → ℕ → S → S → Type 0) → ((n many all : ℕ) (b : Bool) (before next after : S) → all ≡ many + 1 → b ≡ true → Answers before n b next → P (n + 1) many next after → P n all before after)
      → (many more all n at : ℕ) (before asked after : S) → all ≡ many + more → at ≡ n + many → LetAllStart Answers n many before asked
      → P at more asked after → P n all before after
  inside_too P one_more zero more all n at before asked after count from same rest = grind arith
  inside_too P one_more (suc k) more all n at before asked after count from (next, answer, others) rest =
      let later : suc n ≡ n + 1 = omega arith in
      one_more n (k + more) all true before next after (omega (arith, count)) refl answer
      (subst (λ m. P m (k + more) next after) later (inside_too P one_more k more (k + more) (suc n) at next asked after refl (omega (arith, from)) others rest))

  -- what a group's starter was asked, and then for the workers inside
  pub asked_inside : {A B T : Type 0} (n many more all : ℕ) (before asked : S) (from : Option ℕ) (r : Result (Ended S A T) (Ended S B T)) → all ≡ many + more
      → WasAsked Answers n many before from asked → WasAskedFrom Answers from more asked r → WasAskedFrom Answers (Some n) all before r
  asked_inside n many more all before asked (Some at) (Ok ran) count group inside =
      inside_too (LetAllStart Answers) one_more_starts many more all n at before asked ran.starter count group.0 group.1 inside
  asked_inside n many more all before asked (Some at) (Err held) count group inside =
      inside_too (IsRefusedAStart Answers) refused_later many more all n at before asked held.starter count group.0 group.1 inside
  asked_inside n many more all before asked None (Ok ran) count group inside = absurd inside
  asked_inside n many more all before asked None (Err held) count (k, last, less, answers) inside = grind arith

-- What is lent has the starter as it is now, and the answers are those of the starter; N is some name that stays.
module _ {S L N : Type 0} (Answers : S → ℕ → Bool → S → Type 0) (now : L → S) (name : L → N) where
  -- what a lent starter answers
  abbrev pub LentAnswers : L → ℕ → Bool → L → Type 0
  LentAnswers before n b after = (name after ≡ name before) × Answers (now before) n b (now after)

  lent_chain : (n : ℕ) (bs : List Bool) (before after : L) → AreAnswers LentAnswers n bs before after
      → (name after ≡ name before) × AreAnswers Answers n bs (now before) (now after)
  lent_chain n [] before after same = (ap name same, ap now same)
  lent_chain n (b ∷ bs) before after (next, answer, rest) = search (rules, lent_chain (suc n) bs next after rest)

  -- the run is refused
  pub lent_refusal : (many : ℕ) (fault : RunFault) (before after : L) → IsRefusal LentAnswers many fault before after
      → (name after ≡ name before) × IsRefusal Answers many fault (now before) (now after)
  lent_refusal many v before after same = search (rules, lent_chain)

  -- of a run that may be refused
  pub lent_run : {R : Type 0} (many : ℕ) (r : Result R RunFault) (before after : L) → IfOk r (λ _. LetAllStart LentAnswers 0 many before after)
      → IfErr r (λ fault. IsRefusal LentAnswers many fault before after)
      → (name after ≡ name before) × IfOk r (λ _. LetAllStart Answers 0 many (now before) (now after)) × IfErr r (λ fault. IsRefusal Answers many fault (now before) (now after))
  lent_run many (Ok x) before after all none = let it = lent_chain 0 (replicate many true) before after all in (it.0, it.1, tt)
  lent_run many (Err fault) before after none refused = let it = lent_refusal many fault before after refused in (it.0, tt, it.1)
