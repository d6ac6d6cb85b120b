-- A value put into a function of numbers, and written into a list: the two are alike, place by place. Two functions are
-- equal where their values are, and a place is the one that was written to or another.
use Rattle.std.proofs.Common.{◌≡◌, ℕ, ◌<◌, Bool, true, false, ◌==◌, List, length, get_or, set, refl, sym, ◌∙◌, subst, ⊎_elim, if◌then◌else◌}
use Rattle.std.proofs.Math.Path.{fun_ext}
use Rattle.std.proofs.lemmas.List.{get_or-set_same, get_or-set_other}
use Rattle.qs_objects.proofs.Choices.{eqb_self, num_cases}
use Rattle.qs_meaning.specs.audit.Solo.{put}
use Rattle.qs_meaning.proofs.TreeWalks.{put_here, put_there}

pub put_set_at : {A : Type 0} (xs : List A) (h : ℕ) (x d : A) → h < length xs → (n : ℕ) → get_or (set xs h x) n d ≡ put (λ m. get_or xs m d) h x n
put_set_at xs h x d inside n =
    ⊎_elim
    (λ (is : h ≡ n). subst (λ m. get_or (set xs h x) m d ≡ put (λ m. get_or xs m d) h x m) is (get_or-set_same xs h x d inside ∙ sym (put_here (λ m. get_or xs m d) h x)))
    (λ (other : (h == n) ≡ false). get_or-set_other xs h n x d (λ e. let same : (h == n) ≡ true = rw e (eqb_self h) in cc) ∙ sym (put_there (λ m. get_or xs m d) h x n other))
    (num_cases h n)

-- one value put where it stands
pub put_same_at : {A : Type 0} (f : ℕ → A) (h : ℕ) (x : A) → f h ≡ x → (n : ℕ) → put f h x n ≡ f n
put_same_at f h x e n =
    ⊎_elim
    (λ (is : h ≡ n). subst (λ m. put f h x m ≡ f m) is (put_here f h x ∙ sym e))
    (λ (other : (h == n) ≡ false). put_there f h x n other)
    (num_cases h n)

pub put_same : {A : Type 0} (f : ℕ → A) (h : ℕ) (x : A) → f h ≡ x → put f h x ≡ f
put_same f h x e = fun_ext (put_same_at f h x e)

-- the second value put at one place stands
pub put_twice : {A : Type 0} (f : ℕ → A) (h : ℕ) (x y : A) → put (put f h x) h y ≡ put f h y
put_twice f h x y = fun_ext (λ n. by_test (h == n) n)
  where
    by_test : (b : Bool) (n : ℕ) → (if b then y else (if b then x else f n)) ≡ (if b then y else f n)
    by_test true n = refl
    by_test false n = refl

pub put_field : {A B : Type 0} (k : A → B) (f : ℕ → A) (h : ℕ) (x : A) → (n : ℕ) → k (put f h x n) ≡ put (λ m. k (f m)) h (k x) n
put_field k f h x n = by_test (h == n)
  where
    by_test : (b : Bool) → k (if b then x else f n) ≡ (if b then k x else k (f n))
    by_test true = refl
    by_test false = refl
