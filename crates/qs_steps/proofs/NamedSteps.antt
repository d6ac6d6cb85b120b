-- The lines of a list of actors, made one by one beside the text: they are the text's, those that tell a step are of
-- the actors that stepped, and each has the number and the actor that was asked. For any machine, by induction on the
-- actors; then for picks and rounds.
use Rattle.std.proofs.Common.{◌≡◌, ◌<◌, ◌≤◌, ℕ, suc, ◌+◌, Bool, true, false, List, [], ◌∷◌, ◌++◌, flat_map, length, get_or, Option, Some, None, refl, ap, sym, ◌∙◌, append_assoc, append-nil, arith, rules, if◌then◌else◌, subst}
use Rattle.qs_steps.proofs.Names.{Actor, AllByRecursion, Form, ProgramShape, actors_of, begin, core_begin, core_step, each_join, each_map, flat_map-append, get_or-append-add}
use Rattle.qs_steps.proofs.Names.{get_or_append_left, idle_told, length-append, line_of, lines_by, or_stay, plays_by, rounds_of, step, stepper, steppers_by}
use Rattle.qs_steps.specs.PlainSteps.{plain_steps, plain_told}
use Rattle.qs_steps.specs.CoreSteps.{core_steps, core_told}
use Rattle.qs_steps.specs.StepNames.{AreLinesOf, IsAsked, IsRising, Line, SaysNothing, StepsAreNamed, line_text, named}
use Rattle.qs_steps.proofs.TellingRuns.{steppers_append}

named_append : (ks ls : List Line) → named (ks ++ ls) ≡ named ks ++ named ls
named_append [] ls = refl
named_append (k ∷ ks) ls = ap (λ xs. (if k.stepped then k.actor ∷ [] else []) ++ xs) (named_append ks ls) ∙ sym (append_assoc (if k.stepped then k.actor ∷ [] else []) (named ks) (named ls))

rises_sooner : (n m : ℕ) (ls : List Line) → n ≤ m → IsRising m ls → IsRising n ls
rises_sooner n m [] less rising = tt
rises_sooner n m (l ∷ ls) less rising = (omega (arith, less, rising.0), rising.1)

-- a line of these actors, the first of which was asked as the n-th
record IsAt (n : ℕ) (actors : List Actor) (l : Line) : Type 0 where
  pub place : ℕ
  pub number : l.number ≡ n + place
  pub inside : place < length actors
  pub actor : (d : Actor) → get_or actors place d ≡ l.actor

here_first : (n : ℕ) (a : Actor) (rest : List Actor) (b : Bool) (what : List ℕ) → IsAt n (a ∷ rest) (record { number = n; actor = a; stepped = b; what = what })
here_first n a rest b what = record { place = 0; number = omega arith; inside = omega arith; actor = λ d. refl }

one_later : (n : ℕ) (a : Actor) (rest : List Actor) (l : Line) → IsAt (n + 1) rest l → IsAt n (a ∷ rest) l
one_later n a rest l is = record { place = suc is.place; number = omega (arith, is.number); inside = omega (arith, is.inside); actor = is.actor }

module _ {S : Type 0} (step : S → Actor → Option S) (f : Form) (p : ProgramShape) (told : S → Actor → List ℕ) where
  line_made : Bool → ℕ → S → Actor → Option S → List Line
  line_made b n s a (Some t) = record { number = n; actor = a; stepped = true; what = told s a } ∷ []
  line_made true n s a None = record { number = n; actor = a; stepped = false; what = idle_told f } ∷ []
  line_made false n s a None = []

  lines_made : Bool → ℕ → List Actor → S → List Line
  lines_made b n [] s = []
  lines_made b n (a ∷ rest) s = line_made b n s a (step s a) ++ lines_made b (n + 1) rest (or_stay s (step s a))

  one_text : (b : Bool) (n : ℕ) (s : S) (a : Actor) (o : Option S) → line_of step f p told b n s a o ≡ flat_map (line_text f p) (line_made b n s a o)
  unfolding line_made
  one_text b n s a v = grind (arith, append-nil)

  made_text : (b : Bool) (n : ℕ) (actors : List Actor) (s : S) → lines_by step f p told b n actors s ≡ flat_map (line_text f p) (lines_made b n actors s)
  unfolding lines_made
  made_text b n [] s = refl
  made_text b n (a ∷ rest) s =
      (λ k. one_text b n s a (step s a) k ++ made_text b (n + 1) rest (or_stay s (step s a)) k)
      ∙ sym (flat_map-append (line_text f p) (line_made b n s a (step s a)) (lines_made b (n + 1) rest (or_stay s (step s a))))

  one_named : (b : Bool) (n : ℕ) (s : S) (a : Actor) (o : Option S) → named (line_made b n s a o) ≡ stepper step a o
  unfolding line_made
  one_named b n s a v = grind arith

  made_named : (b : Bool) (n : ℕ) (actors : List Actor) (s : S) → named (lines_made b n actors s) ≡ steppers_by step actors s
  unfolding lines_made
  made_named b n [] s = refl
  made_named b n (a ∷ rest) s =
      named_append (line_made b n s a (step s a)) (lines_made b (n + 1) rest (or_stay s (step s a)))
      ∙ (λ k. one_named b n s a (step s a) k ++ made_named b (n + 1) rest (or_stay s (step s a)) k)

  one_idle : (b : Bool) (n : ℕ) (s : S) (a : Actor) (o : Option S) → AllByRecursion (SaysNothing f) (line_made b n s a o)
  unfolding line_made
  one_idle b n s a v = search rules

  made_idle : (b : Bool) (n : ℕ) (actors : List Actor) (s : S) → AllByRecursion (SaysNothing f) (lines_made b n actors s)
  unfolding lines_made
  made_idle b n [] s = tt
  made_idle b n (a ∷ rest) s =
      each_join (SaysNothing f) (line_made b n s a (step s a)) (lines_made b (n + 1) rest (or_stay s (step s a))) (one_idle b n s a (step s a)) (made_idle b (n + 1) rest (or_stay s (step s a)))

  one_at : (b : Bool) (n : ℕ) (s : S) (a : Actor) (rest : List Actor) (o : Option S) → AllByRecursion (IsAt n (a ∷ rest)) (line_made b n s a o)
  unfolding line_made
  one_at b n s a rest v = search (rules, here_first)

  made_at : (b : Bool) (n : ℕ) (actors : List Actor) (s : S) → AllByRecursion (IsAt n actors) (lines_made b n actors s)
  unfolding lines_made
  made_at b n [] s = tt
  made_at b n (a ∷ rest) s =
      let later = lines_made b (n + 1) rest (or_stay s (step s a)) in
      each_join (IsAt n (a ∷ rest)) (line_made b n s a (step s a)) later (one_at b n s a rest (step s a))
      (each_map {P = IsAt (n + 1) rest} {Q = IsAt n (a ∷ rest)} (one_later n a rest) later (made_at b (n + 1) rest (or_stay s (step s a))))

  one_rises : (b : Bool) (n : ℕ) (s : S) (a : Actor) (o : Option S) (ks : List Line) → IsRising (n + 1) ks → IsRising n (line_made b n s a o ++ ks)
  unfolding line_made
  one_rises b n s a v ks rising = grind (arith, rises_sooner)

  made_rises : (b : Bool) (n : ℕ) (actors : List Actor) (s : S) (ks : List Line) → IsRising (n + length actors) ks → IsRising n (lines_made b n actors s ++ ks)
  unfolding lines_made
  made_rises b n [] s ks rising = rises_sooner n (n + 0) ks (omega arith) rising
  made_rises b n (a ∷ rest) s ks rising =
      let t = or_stay s (step s a) in
      let far : (n + 1) + length rest ≡ n + suc (length rest) = omega arith in
      subst (IsRising n) (sym (append_assoc (line_made b n s a (step s a)) (lines_made b (n + 1) rest t) ks))
      (one_rises b n s a (step s a) (lines_made b (n + 1) rest t ++ ks) (made_rises b (n + 1) rest t ks (subst (λ m. IsRising m ks) (sym far) rising)))

  -- a line of the picks, and one of the actors after them
  first_asked : (picks others : List Actor) (l : Line) → IsAt 1 picks l → IsAsked (picks ++ others) l
  first_asked picks others l is = record {
    place = is.place;
    number = omega (arith, is.number);
    inside = omega (arith, is.inside, length-append picks others);
    actor = λ d. get_or_append_left picks others d is.place is.inside ∙ is.actor d;
  }

  then_asked : (picks others : List Actor) (l : Line) → IsAt (length picks + 1) others l → IsAsked (picks ++ others) l
  then_asked picks others l is = record {
    place = length picks + is.place;
    number = omega (arith, is.number);
    inside = omega (arith, is.inside, length-append picks others);
    actor = λ d. get_or-append-add picks others is.place d ∙ is.actor d;
  }

  pub all_named : (picks others : List Actor) (s : S) → AreLinesOf f p (picks ++ others) (steppers_by step (picks ++ others) s)
      (lines_by step f p told true 1 picks s ++ lines_by step f p told false (length picks + 1) others (plays_by step picks s))
  all_named picks others s =
      let t = plays_by step picks s in
      let first = lines_made true 1 picks s in
      let second = lines_made false (length picks + 1) others t in
      let number : length picks + 1 ≡ 1 + length picks = omega arith in
      record {
        lines = first ++ second;
        text = (λ k. made_text true 1 picks s k ++ made_text false (length picks + 1) others t k) ∙ sym (flat_map-append (line_text f p) first second);
        steppers = named_append first second ∙ (λ k. made_named true 1 picks s k ++ made_named false (length picks + 1) others t k) ∙ sym (steppers_append step picks others s);
        idle = each_join (SaysNothing f) first second (made_idle true 1 picks s) (made_idle false (length picks + 1) others t);
        asked = each_join (IsAsked (picks ++ others)) first second (each_map {P = IsAt 1 picks} {Q = IsAsked (picks ++ others)} (first_asked picks others) first (made_at true 1 picks s))
            (each_map {P = IsAt (length picks + 1) others} {Q = IsAsked (picks ++ others)} (then_asked picks others) second (made_at false (length picks + 1) others t));
        rising = made_rises true 1 picks s second (subst (λ m. IsRising m second) number
            (subst (IsRising (length picks + 1)) (append-nil second) (made_rises false (length picks + 1) others t [] tt)));
      }

pub steps_named : StepsAreNamed
unfolding plain_steps core_steps
steps_named = record {
  by_rules = λ f p picks rounds. all_named (step p) f p (plain_told f p) picks (rounds_of rounds (actors_of p)) (begin p);
  by_machine = λ f p code size picks rounds. all_named (core_step code size) f p (core_told f p code size) picks (rounds_of rounds (actors_of p)) (core_begin p);
}
