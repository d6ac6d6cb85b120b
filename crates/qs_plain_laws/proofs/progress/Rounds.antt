-- Enough rounds finish every machine that is never stuck, stays where it is finished, and makes no more steps than a
-- bound. In a list in which everyone has a turn, and before which all is not finished, somebody has a step: for
-- somebody could go on at its beginning, and either one before him had a step or he finds the state as it was. So as
-- many steps were made as there were such lists; but there are no more than the bound, and one more could follow. A
-- round is such a list.
use Rattle.std.proofs.Common.{◌≡◌, ◌<◌, ◌≤◌, ◌∙◌, ◌⊎◌, inl, inr, ⊎_elim, ℕ, zero, suc, ◌+◌, ◌==◌, Bool, true, false, true≢false, List, [], ◌∷◌, ◌++◌, Option, None, IsSome, map, length, append_assoc, append-nil, flat_map, refl, sym, ap, subst, arith, rules}
use Rattle.qs_played.proofs.Names.{AllByRecursion, range_with_len, apart_eqb, num_cases, ProgramShape, actors_of, names_actor, or_stay, plays_by, rounds_of, schedule}
use Rattle.qs_played.specs.declared.schedule.actor.Actor.{Actor}
use Rattle.qs_played.specs.declared.schedule.actor.Actor.TheVariants as actor
use Rattle.qs_plain_laws.specs.progress.Finishing.{HasEveryone, IsOneOf}
use Rattle.qs_plain_laws.specs.progress.Steps.{made, steps_made_by}

-- ---- who has a turn in a round

one_of_numbers : (f : ℕ → Actor) (from n c : ℕ) → from ≤ c → c < from + n
    → IsOneOf (f c) (map f (range_with_len from n))
one_of_numbers f from zero c low high = absurd (omega (arith, low, high))
one_of_numbers f from (suc n) c low high = ⊎_elim
    (λ (is : c ≡ from). inl (ap f is))
    (λ (other : (c == from) ≡ false).
    let differs = apart_eqb c from other in
    inr (one_of_numbers f (from + 1) n c (omega (arith, low, differs)) (omega (arith, high))))
    (num_cases c from)

one_of_first : (a : Actor) (xs ys : List Actor) → IsOneOf a xs → IsOneOf a (xs ++ ys)
one_of_first a [] ys i = absurd i
one_of_first a (x ∷ xs) ys (inl is) = inl is
one_of_first a (x ∷ xs) ys (inr i) = inr (one_of_first a xs ys i)

one_of_last : (a : Actor) (xs ys : List Actor) → IsOneOf a ys → IsOneOf a (xs ++ ys)
one_of_last a [] ys i = i
one_of_last a (x ∷ xs) ys i = inr (one_of_last a xs ys i)

in_round : (p : ProgramShape) → HasEveryone p (actors_of p)
in_round p a named = by_kind a named
  where
    clients : List Actor
    clients = map actor.Client (range_with_len 0 (length p.clients))

    handlers : List Actor
    handlers = map actor.Handler (range_with_len 0 (length p.objects))

    by_kind : (a : Actor) → names_actor p a ≡ true → IsOneOf a (clients ++ handlers)
    by_kind (actor.Client c) named =
        one_of_first (actor.Client c) clients handlers
        (one_of_numbers actor.Client 0 (length p.clients) c (omega arith) (grind (arith, named)))
    by_kind (actor.Handler h) named =
        one_of_last (actor.Handler h) clients handlers
        (one_of_numbers actor.Handler 0 (length p.objects) h (omega arith) (grind (arith, named)))

-- ---- rounds as a list of lists

abbrev joined : List (List Actor) → List Actor
joined turns = flat_map (λ turn. turn) turns

abbrev repeated : ℕ → List Actor → List (List Actor)
repeated zero turn = []
repeated (suc n) turn = turn ∷ repeated n turn

one_before : (n : ℕ) (turn : List Actor) → turn ++ rounds_of n turn ≡ rounds_of (suc n) turn
one_before zero turn = append-nil turn
one_before (suc n) turn = search (rules, append_assoc, one_before n turn)

rounds_joined : (n : ℕ) (turn : List Actor) → joined (repeated n turn) ≡ rounds_of n turn
rounds_joined zero turn = refl
rounds_joined (suc n) turn = ap (λ xs. turn ++ xs) (rounds_joined n turn) ∙ one_before n turn

repeated_all : (P : List Actor → Type 0) (n : ℕ) (turn : List Actor) → P turn → AllByRecursion P (repeated n turn)
repeated_all P zero turn one = tt
repeated_all P (suc n) turn one = (one, repeated_all P n turn one)

repeated_many : (n : ℕ) (turn : List Actor) → length (repeated n turn) ≡ n
repeated_many zero turn = refl
repeated_many (suc n) turn = ap suc (repeated_many n turn)

-- ---- steps in lists of actors

module _ {S : Type 0} (p : ProgramShape) (step : S → Actor → Option S) where
  one_made : (o : Option S) → IsSome o → made o ≡ 1
  one_made v some = search (rules, true≢false)

  some_made : (s : S) (a : Actor) (actors : List Actor) → IsOneOf a actors → IsSome (step s a)
      → 1 ≤ steps_made_by step actors s
  some_made s a [] i some = absurd i
  some_made s a (b ∷ rest) i some = search (rules, some_made s a rest)

  plays_joined : (xs ys : List Actor) (s : S) → plays_by step (xs ++ ys) s ≡ plays_by step ys (plays_by step xs s)
  plays_joined [] ys s = refl
  plays_joined (a ∷ xs) ys s = plays_joined xs ys (or_stay s (step s a))

  steps_joined : (xs ys : List Actor) (s : S)
      → steps_made_by step (xs ++ ys) s ≡ steps_made_by step xs s + steps_made_by step ys (plays_by step xs s)
  steps_joined [] ys s = omega arith
  steps_joined (a ∷ xs) ys s = let ih = steps_joined xs ys (or_stay s (step s a)) in omega (arith, ih)

  plays_nothing : (s : S) (actors : List Actor) → ((a : Actor) → step s a ≡ None) → plays_by step actors s ≡ s
  plays_nothing s [] none = refl
  plays_nothing s (a ∷ rest) none = ap (λ o. plays_by step rest (or_stay s o)) (none a) ∙ plays_nothing s rest none

  -- ---- enough lists in which everyone has a turn, and enough rounds

  module _ (begin : S) (over : S → Bool) where
    abbrev after : List Actor → S
    after actors = plays_by step actors begin

    abbrev IsOver : List Actor → Type 0
    IsOver actors = over (after actors) ≡ true

    abbrev count : List Actor → ℕ
    count actors = steps_made_by step actors begin

    module _ (stay : (actors : List Actor) → IsOver actors → (a : Actor) → step (after actors) a ≡ None)
        (stuck : (actors : List Actor)
        → IsOver actors ⊎ ((a : Actor) × (names_actor p a ≡ true) × IsSome (step (after actors) a)))
        (most : ℕ) (bounded : (actors : List Actor) → count actors ≤ most) where
      still_over : (xs ys : List Actor) → IsOver xs → IsOver (xs ++ ys)
      still_over xs ys is = search (rules, plays_joined, plays_nothing, after)

      -- after a list in which everyone has a turn all is finished, or a step was made
      one_turn : (xs turn : List Actor) → HasEveryone p turn
          → IsOver (xs ++ turn) ⊎ (suc (count xs) ≤ count (xs ++ turn))
      one_turn xs turn everyone = search (rules, still_over, steps_joined, some_made)

      turns_on : (xs : List Actor) (turns : List (List Actor)) → AllByRecursion (HasEveryone p) turns
          → IsOver (xs ++ joined turns) ⊎ (length turns + count xs ≤ count (xs ++ joined turns))
      turns_on xs [] each = inr (subst (λ ys. 0 + count xs ≤ count ys) (sym (append-nil xs)) (omega arith))
      turns_on xs (turn ∷ turns) each = grind (arith, count, append_assoc, joined, one_turn, still_over, turns_on (xs ++ turn) turns each.1)

      -- with as many steps as there can be, nobody has one more
      none_more : (xs : List Actor) → most ≤ count xs → IsOver xs
      none_more xs many = elim (stuck xs) [
        | inl is ↦ is
        | inr (a, named, some) ↦
            absurd
            (let both = steps_joined xs (a ∷ []) begin in
            let one = one_made (step (after xs) a) some in
            let few = bounded (xs ++ a ∷ []) in
            omega (arith, both, one, few, many))
      ]

      -- after any picks
      pub enough_turns : (picks : List Actor) (turns : List (List Actor)) → AllByRecursion (HasEveryone p) turns
          → most ≤ length turns → IsOver (picks ++ joined turns)
      enough_turns picks turns each many = search (rules, turns_on, none_more)

      pub enough_rounds : (picks : List Actor) (n : ℕ) → most ≤ n → IsOver (schedule p picks n)
      enough_rounds picks n many =
          let long = repeated_many n (actors_of p) in
          subst (λ rounds. IsOver (picks ++ rounds)) (rounds_joined n (actors_of p))
          (enough_turns picks (repeated n (actors_of p)) (repeated_all (HasEveryone p) n (actors_of p) (in_round p))
          (omega (arith, long, many)))
