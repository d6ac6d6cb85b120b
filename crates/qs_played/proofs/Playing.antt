-- Lists of actors, one actor and one round longer, and what playing them comes to, whatever the step function is: both
-- machines' loops over actors and rounds keep their invariants by these.
use Rattle.std.proofs.Common.{◌≡◌, ℕ, ◌+◌, List, [], ◌∷◌, ◌++◌, Option, IsSome, map, refl, ap, sym, ◌∙◌, add-one, zero-add, append_assoc, inl, inr, rules}
use Rattle.qs_played.proofs.Names.{range_with_len, ProgramShape, HasStep, actors_of, or_stay, plays_by, rounds_of, schedule, Actor}
use Rattle.qs_played.proofs.Lists.{range_more}

mapped_more : (f : ℕ → Actor) (xs : List ℕ) (n : ℕ) → map f (xs ++ n ∷ []) ≡ map f xs ++ f n ∷ []
mapped_more f [] n = refl
mapped_more f (x ∷ xs) n = ap (λ zs. f x ∷ zs) (mapped_more f xs n)

-- one actor more of a row
pub row_more : (actors : List Actor) (f : ℕ → Actor) (n : ℕ) → actors ++ map f (range_with_len 0 (n + 1)) ≡ (actors ++ map f (range_with_len 0 n)) ++ f n ∷ []
row_more actors f n =
    ap (λ xs. actors ++ xs) (ap (λ m. map f (range_with_len 0 m)) (add-one n) ∙ ap (map f) (range_more 0 n ∙ ap (λ m. range_with_len 0 n ++ m ∷ []) (zero-add n)) ∙ mapped_more f (range_with_len 0 n) n)
    ∙ sym (append_assoc actors (map f (range_with_len 0 n)) (f n ∷ []))

-- one round more
pub round_more : (p : ProgramShape) (picks : List Actor) (n : ℕ) → schedule p picks (n + 1) ≡ schedule p picks n ++ actors_of p
round_more p picks n = ap (schedule p picks) (add-one n) ∙ sym (append_assoc picks (rounds_of n (actors_of p)) (actors_of p))

-- one list after another
pub plays_by-append : {S : Type 0} (step : S → Actor → Option S) (xs ys : List Actor) (s : S) → plays_by step (xs ++ ys) s ≡ plays_by step ys (plays_by step xs s)
plays_by-append step [] ys s = refl
plays_by-append step (a ∷ xs) ys s = plays_by-append step xs ys (or_stay s (step s a))

-- who has a step in the first part of a list
pub step_in_front : {S : Type 0} (step : S → Actor → Option S) (xs ys : List Actor) (s : S) → HasStep step xs s → HasStep step (xs ++ ys) s
step_in_front step [] ys s h = absurd h
step_in_front step (a ∷ xs) ys s (inl h) = inl h
step_in_front step (a ∷ xs) ys s (inr h) = inr (step_in_front step xs ys (or_stay s (step s a)) h)

-- and at its end
pub step_at_end : {S : Type 0} (step : S → Actor → Option S) (xs : List Actor) (a : Actor) (s : S) → IsSome (step (plays_by step xs s) a) → HasStep step (xs ++ a ∷ []) s
step_at_end step [] a s h = inl h
step_at_end step (b ∷ xs) a s h = inr (step_at_end step xs a (or_stay s (step s b)) h)
