-- The actors that stepped, stepped again: where nobody stepped the state stays, so they come to the same state.
use Rattle.std.proofs.Common.{◌≡◌, ◌≤◌, ℕ, zero, suc, ◌+◌, true, List, [], ◌∷◌, ◌++◌, map, length, Option, Some, None, refl, ap, append-nil, sym, ◌∙◌, ◌<◌, arith}
use Rattle.qs_steps.proofs.Names.{Actor, ProgramShape, actors_of, all_named, and_cases, begin, core_begin, core_played, core_step, names_actor, nat_tests, or_stay, played_of, plays_by}
use Rattle.qs_steps.proofs.Names.{range_with_len, rounds_of, schedule, step, stepper, steppers_by}
use Rattle.qs_meaning.proofs.Groups.{both_true}
use Rattle.qs_played.specs.declared.schedule.actor.Actor.TheVariants as actor
use Rattle.qs_plain_laws.specs.PlainSchedule.{scheduled}
use Rattle.qs_core_laws.specs.CoreSchedule.{core_scheduled}
use Rattle.qs_steps.specs.StepReplays.{CoreStepsReplay, PlainStepsReplay}

module _ {S : Type 0} (step : S → Actor → Option S) where
  replay_step : (a : Actor) (rest : List Actor) (s : S) (o : Option S) → step s a ≡ o
      → ((t : S) → plays_by step (steppers_by step rest t) t ≡ plays_by step rest t)
      → plays_by step (stepper step a o ++ steppers_by step rest (or_stay s o)) s ≡ plays_by step rest (or_stay s o)
  replay_step a rest s None e again = again s
  replay_step a rest s (Some t) e again = ap (λ o. plays_by step (steppers_by step rest t) (or_stay s o)) e ∙ again t

  replay : (actors : List Actor) (s : S) → plays_by step (steppers_by step actors s) s ≡ plays_by step actors s
  replay [] s = refl
  replay (a ∷ rest) s = replay_step a rest s (step s a) refl (replay rest)

module _ (p : ProgramShape) where
  named_both : (xs ys : List Actor) → all_named p xs ≡ true → all_named p ys ≡ true → all_named p (xs ++ ys) ≡ true
  named_both [] ys x y = y
  named_both (a ∷ xs) ys x y =
      let c = and_cases (names_actor p a) (all_named p xs) x in
      both_true (names_actor p a) (all_named p (xs ++ ys)) c.0 (named_both xs ys c.1 y)

  row_named : (f : ℕ → Actor) (many : ℕ) → ((i : ℕ) → i < many → names_actor p (f i) ≡ true) → (a n : ℕ) → a + n ≤ many → all_named p (map f (range_with_len a n)) ≡ true
  row_named f many each a zero few = refl
  row_named f many each a (suc n) few =
      both_true (names_actor p (f a)) (all_named p (map f (range_with_len (a + 1) n))) (each a (omega (arith, few))) (row_named f many each (a + 1) n (omega (arith, few)))

  turn_named : all_named p (actors_of p) ≡ true
  turn_named =
      named_both (map actor.Client (range_with_len 0 (length p.clients))) (map actor.Handler (range_with_len 0 (length p.objects)))
      (row_named actor.Client (length p.clients) (λ i few. grind (arith, nat_tests)) 0 (length p.clients) (omega arith))
      (row_named actor.Handler (length p.objects) (λ i few. grind (arith, nat_tests)) 0 (length p.objects) (omega arith))

  rounds_named : (n : ℕ) → all_named p (rounds_of n (actors_of p)) ≡ true
  rounds_named zero = refl
  rounds_named (suc n) = named_both (rounds_of n (actors_of p)) (actors_of p) (rounds_named n) turn_named

  named_step : {S : Type 0} (step : S → Actor → Option S) (a : Actor) (rest : List Actor) (s : S) (o : Option S) → names_actor p a ≡ true
      → ((t : S) → all_named p (steppers_by step rest t) ≡ true) → all_named p (stepper step a o ++ steppers_by step rest (or_stay s o)) ≡ true
  named_step step a rest s None here others = others s
  named_step step a rest s (Some t) here others = both_true (names_actor p a) (all_named p (steppers_by step rest t)) here (others t)

  steppers_named : {S : Type 0} (step : S → Actor → Option S) (actors : List Actor) (s : S) → all_named p actors ≡ true → all_named p (steppers_by step actors s) ≡ true
  steppers_named step [] s named = refl
  steppers_named step (a ∷ rest) s named =
      let c = and_cases (names_actor p a) (all_named p rest) named in
      named_step step a rest s (step s a) c.0 (λ t. steppers_named step rest t c.1)

  scheduled_named : {S : Type 0} (step : S → Actor → Option S) (picks : List Actor) (rounds : ℕ) (s : S) → all_named p picks ≡ true → all_named p (steppers_by step (schedule p picks rounds) s) ≡ true
  scheduled_named step picks rounds s named =
      steppers_named step (schedule p picks rounds) s (named_both picks (rounds_of rounds (actors_of p)) named (rounds_named rounds))

  replayed : {S : Type 0} (step : S → Actor → Option S) (actors : List Actor) (s : S) → plays_by step (schedule p (steppers_by step actors s) 0) s ≡ plays_by step actors s
  replayed step actors s = ap (λ xs. plays_by step xs s) (append-nil (steppers_by step actors s)) ∙ replay step actors s

pub plain_replay : PlainStepsReplay
unfolding scheduled
plain_replay p picks rounds played is =
    (omega arith, scheduled_named p (step p) picks rounds (begin p) is.1, is.2 ∙ ap (played_of p) (sym (replayed p (step p) (schedule p picks rounds) (begin p))))

pub core_replay : CoreStepsReplay
unfolding core_scheduled
core_replay p mode code are size picks rounds played shown is = (
  omega arith,
  scheduled_named p (core_step code size) picks rounds (core_begin p) is.1,
  (code, are, shown ∙ ap (core_played p) (sym (replayed p (core_step code size) (schedule p picks rounds) (core_begin p)))),
)
