-- A list that is read by number is a function; where one place of the list is set, the function is changed at that
-- number. What is kept in lists, such as how many blocks each client has begun, stands so to what definitions say by
-- functions. It goes by cases on the number.
use Rattle.std.proofs.Common.{◌≡◌, ◌≢◌, ◌<◌, ℕ, suc, false, ◌==◌, List, length, get_or, replicate, refl, sym, ◌∙◌, subst, ⊎_elim, get_or-set_same, get_or-set_other, slice_set}
use Rattle.qs_objects.proofs.Choices.{apart_eqb, num_cases}
use Rattle.qs_meaning.specs.audit.Solo.{put}
use Rattle.qs_meaning.proofs.TreeWalks.{put_here, put_there}

-- a list by number, changed at a place
pub lookup-set : {X : Type 0} (xs : List X) (i : ℕ) (v d : X) → i < length xs → ◌≡◌ {A = ℕ → X} (λ j. get_or (slice_set xs i v) j d) (put (λ j. get_or xs j d) i v)
lookup-set xs i v d within = λ k j. at j k
  where
    at : (j : ℕ) → get_or (slice_set xs i v) j d ≡ put (λ j. get_or xs j d) i v j
    at j =
        ⊎_elim
        (λ (is : i ≡ j). subst (λ j. get_or (slice_set xs i v) j d ≡ put (λ j. get_or xs j d) i v j) is
        (get_or-set_same xs i v d within ∙ sym (put_here (λ j. get_or xs j d) i v)))
        (λ (other : (i == j) ≡ false). let apart : i ≢ j = apart_eqb i j other in
        get_or-set_other xs i j v d (λ e. apart (sym e)) ∙ sym (put_there (λ j. get_or xs j d) i v j other))
        (num_cases i j)

pub lookup-replicate : {X : Type 0} (n i : ℕ) (a : X) → get_or (replicate n a) i a ≡ a
lookup-replicate (suc n) (suc i) a = lookup-replicate n i a
lookup-replicate _ _ a = refl
