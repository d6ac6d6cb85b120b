-- These lemmas play a schedule of the plain rules one actor, one pick and one round at a time, and say what is shown at
-- its end. The loops of `play`, `play_rounds` and `round` keep that their state is where the actors so far lead. Two
-- lists of actors are played one after the other, and where a round changes nothing, further rounds change nothing, by
-- induction.
use Rattle.std.proofs.Common.{◌≡◌, ℕ, zero, suc, ◌+◌, Bool, true, false, ◌||◌, is_some, List, [], ◌∷◌, ◌++◌, map, None, ap, subst, ◌∙◌, ◌≤◌, length, drop, arith, rules}
use Rattle.qs_played.proofs.Names.{drop_all, Result, IfOk, OnTrue, range_with_len, ProgramShape, HasStep, actors_of, rounds_of, schedule, Played, or_stay}
use Rattle.qs_played.specs.declared.schedule.actor.Actor.{Actor}
use Rattle.qs_played.proofs.Playing.{plays_by-append, round_more, row_more, step_at_end, step_in_front}
use Rattle.qs_plain_laws.proofs.Names.{Plain, step, played_of, plays}
use Rattle.qs_plain.specs.Rules.{RulesState, Steps, plain_of}

pub plays-append : (p : ProgramShape) (xs ys : List Actor) (s : Plain) → plays p (xs ++ ys) s ≡ plays p ys (plays p xs s)
plays-append p xs ys s = plays_by-append (step p) xs ys s

-- one actor more of a row
pub plays-more : (p : ProgramShape) (f : ℕ → Actor) (n : ℕ) (s : Plain)
    → plays p (map f (range_with_len 0 (n + 1))) s ≡ or_stay (plays p (map f (range_with_len 0 n)) s) (step p (plays p (map f (range_with_len 0 n)) s) (f n))
plays-more p f n s = ap (λ xs. plays p xs s) (row_more [] f n) ∙ plays-append p (map f (range_with_len 0 n)) (f n ∷ []) s

-- one round more
pub plays-round : (p : ProgramShape) (picks : List Actor) (n : ℕ) (s : Plain) → plays p (schedule p picks (n + 1)) s ≡ plays p (actors_of p) (plays p (schedule p picks n) s)
plays-round p picks n s = ap (λ xs. plays p xs s) (round_more p picks n) ∙ plays-append p (schedule p picks n) (actors_of p) s

-- all picks, and then the rounds
pub plays-schedule : (p : ProgramShape) (picks : List Actor) (i rounds : ℕ) (old new : RulesState) (s : Plain) → length picks ≤ i → old.program ≡ p → plays p (drop i picks) (plain_of old) ≡ plays p picks s
    → plain_of new ≡ plays old.program (rounds_of rounds (actors_of old.program)) (plain_of old) → plain_of new ≡ plays p (schedule p picks rounds) s
plays-schedule p picks i rounds old new s end same before after = search (rules, drop_all, plays-append)

-- what is shown of it
pub shown-as : {E : Type 0} (result : Result Played E) (p : ProgramShape) (t : Plain) (s : RulesState) → s.program ≡ p → plain_of s ≡ t → IfOk result (λ played. played ≡ played_of s.program (plain_of s))
    → IfOk result (λ played. played ≡ played_of p t)
shown-as result p t s same there = subst (λ shown. IfOk result (λ played. played ≡ shown)) (λ k. played_of (same k) (there k))

-- a step of the code, or none
pub stepped : (old : RulesState) (a : Actor) (b : Bool) (new : RulesState) → OnTrue b (Steps old a new)
    → (b ≡ false → step old.program (plain_of old) a ≡ None) → (b ≡ false → new ≡ old)
    → (plain_of new ≡ or_stay (plain_of old) (step old.program (plain_of old) a)) × (new.program ≡ old.program)
stepped old a v new steps none unchanged = search rules

-- where the last of some actors has stepped, or one before it, somebody of them has a step
pub has_stepped : (p : ProgramShape) (xs : List Actor) (a : Actor) (first old new : RulesState) (before here : Bool) → old.program ≡ p
    → plain_of old ≡ plays p xs (plain_of first) → OnTrue here (Steps old a new) → (before ≡ true → HasStep (step p) xs (plain_of first)) → (before || here) ≡ true
    → HasStep (step p) (xs ++ a ∷ []) (plain_of first)
has_stepped p xs a first old new v here same there steps w so = search (rules, step_in_front, step_at_end, is_some)

-- where a round changes nothing, no further one does
pub plays-still : (p : ProgramShape) (n k : ℕ) (s : Plain) → plays p (actors_of p) (plays p (rounds_of n (actors_of p)) s) ≡ plays p (rounds_of n (actors_of p)) s
    → plays p (rounds_of (n + k) (actors_of p)) s ≡ plays p (rounds_of n (actors_of p)) s
plays-still p n zero s same = grind arith
plays-still p n (suc k) s same =
    let more : n + suc k ≡ (n + k) + 1 = omega (arith) in
    ap (λ m. plays p (rounds_of m (actors_of p)) s) more
    ∙ plays-round p [] (n + k) s
    ∙ ap (plays p (actors_of p)) (plays-still p n k s same)
    ∙ same
