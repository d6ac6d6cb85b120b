-- The lines of one list of actors after those of another, whatever the machine is. The loops over picks, actors of a
-- round and rounds keep what they have told so far by these; and where nobody of a round steps, further rounds have no
-- lines and change nothing.
use Rattle.std.proofs.Common.{◌≡◌, ℕ, zero, suc, ◌+◌, ◌*◌, Bool, false, true, List, [], ◌∷◌, ◌++◌, map, length, Option, Some, None, refl, ap, sym, subst, ◌∙◌, append_assoc, append-nil, arith}
use Rattle.qs_steps.proofs.Names.{Actor, AreTold, Form, IsAsked, IsScheduleTold, LeadTo, NoneStep, ProgramShape, View, actors_of, asked_line, length-append}
use Rattle.qs_steps.proofs.Names.{length-map-range_with_len, line_of, lines_by, or_stay, plays_by, plays_by-append, range_with_len, rounds_of, row_more, stepper, steppers_by}
use Rattle.qs_played.specs.declared.schedule.actor.Actor.TheVariants as actor

pub length-turn : (p : ProgramShape) → length (actors_of p) ≡ length p.clients + length p.objects
length-turn p = omega (arith, length-append (map actor.Client (range_with_len 0 (length p.clients))) (map actor.Handler (range_with_len 0 (length p.objects))), length-map-range_with_len actor.Client 0 (length p.clients), length-map-range_with_len actor.Handler 0 (length p.objects))

pub length-rounds : (turn : List Actor) (n : ℕ) → length (rounds_of n turn) ≡ n * length turn
length-rounds turn zero = grind arith
length-rounds turn (suc n) = grind (arith, length-append (rounds_of n turn) turn, length-rounds turn n)

-- the number of the actor that is asked first in a round, after so many rounds
pub number_after : (p : ProgramShape) (picks i from clients objects : ℕ) → from ≡ i → clients ≡ length p.clients → objects ≡ length p.objects
    → (picks + from * (clients + objects)) + 1 ≡ (picks + 1) + length (rounds_of i (actors_of p))
number_after p picks i from clients objects is many others =
    let long : length (rounds_of i (actors_of p)) ≡ i * (length p.clients + length p.objects) = length-rounds (actors_of p) i ∙ ap (λ m. i * m) (length-turn p) in
    let asked : from * (clients + objects) ≡ i * (length p.clients + length p.objects) = λ k. is k * (many k + others k) in
    omega (arith, long, asked)

pub rounds_on : (turn : List Actor) (n k : ℕ) → rounds_of (n + k) turn ≡ rounds_of n turn ++ rounds_of k turn
rounds_on turn n zero = let none : n + 0 ≡ n = omega arith in ap (λ m. rounds_of m turn) none ∙ sym (append-nil (rounds_of n turn))
rounds_on turn n (suc k) =
    let more : n + suc k ≡ suc (n + k) = omega arith in
    ap (λ m. rounds_of m turn) more ∙ ap (λ xs. xs ++ turn) (rounds_on turn n k) ∙ append_assoc (rounds_of n turn) (rounds_of k turn) turn

module _ {S : Type 0} (step : S → Actor → Option S) where
  pub steppers_append : (xs ys : List Actor) (s : S) → steppers_by step (xs ++ ys) s ≡ steppers_by step xs s ++ steppers_by step ys (plays_by step xs s)
  steppers_append [] ys s = refl
  steppers_append (a ∷ xs) ys s =
      ap (λ zs. stepper step a (step s a) ++ zs) (steppers_append xs ys (or_stay s (step s a)))
      ∙ sym (append_assoc (stepper step a (step s a)) (steppers_by step xs (or_stay s (step s a))) (steppers_by step ys (plays_by step xs (or_stay s (step s a)))))

  -- where nobody steps, the state stays
  still_step : (a : Actor) (xs : List Actor) (s : S) (o : Option S) → stepper step a o ++ steppers_by step xs (or_stay s o) ≡ [] → (steppers_by step xs s ≡ [] → plays_by step xs s ≡ s)
      → plays_by step xs (or_stay s o) ≡ s
  still_step a xs s None later others = others later
  still_step a xs s (Some t) later others = cc

  pub still_state : (xs : List Actor) (s : S) → steppers_by step xs s ≡ [] → plays_by step xs s ≡ s
  still_state [] s none = refl
  still_state (a ∷ xs) s none = still_step a xs s (step s a) none (still_state xs s)

  pub still_states : (turn : List Actor) (k : ℕ) (s : S) → steppers_by step turn s ≡ [] → plays_by step (rounds_of k turn) s ≡ s
  still_states turn zero s none = refl
  still_states turn (suc k) s none = plays_by-append step (rounds_of k turn) turn s ∙ ap (plays_by step turn) (still_states turn k s none) ∙ still_state turn s none

  module _ (f : Form) (p : ProgramShape) (told : S → Actor → List ℕ) where
    abbrev lines : Bool → ℕ → List Actor → S → List ℕ
    lines = lines_by step f p told

    pub lines_append : (b : Bool) (n : ℕ) (xs ys : List Actor) (s : S) → lines b n (xs ++ ys) s ≡ lines b n xs s ++ lines b (n + length xs) ys (plays_by step xs s)
    lines_append b n [] ys s = let none : n ≡ n + 0 = omega arith in ap (λ m. lines b m ys s) none
    lines_append b n (a ∷ xs) ys s =
        let t = or_stay s (step s a) in
        let line = line_of step f p told b n s a (step s a) in
        let far : (n + 1) + length xs ≡ n + suc (length xs) = omega arith in
        ap (λ zs. line ++ zs) (lines_append b (n + 1) xs ys t ∙ ap (λ m. lines b (n + 1) xs t ++ lines b m ys (plays_by step xs t)) far)
        ∙ sym (append_assoc line (lines b (n + 1) xs t) (lines b (n + suc (length xs)) ys (plays_by step xs t)))

    -- where nobody steps, an actor of a round has no line
    still_line : (n : ℕ) (a : Actor) (xs : List Actor) (s : S) (o : Option S) → stepper step a o ++ steppers_by step xs (or_stay s o) ≡ [] → (steppers_by step xs s ≡ [] → lines false (n + 1) xs s ≡ [])
        → line_of step f p told false n s a o ++ lines false (n + 1) xs (or_stay s o) ≡ []
    still_line n a xs s None later others = others later
    still_line n a xs s (Some t) later others = cc

    pub still_lines : (n : ℕ) (xs : List Actor) (s : S) → steppers_by step xs s ≡ [] → lines false n xs s ≡ []
    still_lines n [] s none = refl
    still_lines n (a ∷ xs) s none = still_line n a xs s (step s a) none (still_lines (n + 1) xs s)

    pub still_rounds : (n : ℕ) (turn : List Actor) (k : ℕ) (s : S) → steppers_by step turn s ≡ [] → lines false n (rounds_of k turn) s ≡ []
    still_rounds n turn zero s none = refl
    still_rounds n turn (suc k) s none =
        lines_append false n (rounds_of k turn) turn s
        ∙ (λ i. still_rounds n turn k s none i ++ lines false (n + length (rounds_of k turn)) turn (still_states turn k s none i))
        ∙ still_lines (n + length (rounds_of k turn)) turn s none

-- by any machine's view
module _ {M : Type 0} (v : View M) where
  abbrev step_at : M → v.State → Actor → Option v.State
  step_at s = v.step (v.kept s)

  -- an actor that was asked to step
  one_leads : (a : Actor) (stepped : Bool) (s new : M) → IsAsked v a stepped s new → LeadTo v (a ∷ []) s new
  one_leads a true s new asked = record { kept = asked.kept; state = sym (ap (or_stay (v.state s)) asked.steps) }
  one_leads a false s new asked = record { kept = asked.kept; state = ap v.state (asked.same refl) ∙ sym (ap (or_stay (v.state s)) (asked.none refl)) }

  one_still : (a : Actor) (stepped : Bool) (s new : M) → IsAsked v a stepped s new → stepped ≡ false → NoneStep v (a ∷ []) s new
  one_still a stepped s new asked idle = record { none = ap (λ o. stepper (step_at s) a o ++ []) (asked.none idle); same = asked.same idle }

  -- before the first
  pub none_lead : (s : M) → LeadTo v [] s s
  none_lead s = record { kept = refl; state = refl }

  -- further actors
  pub more_lead : (xs ys : List Actor) (s mid new : M) → LeadTo v xs s mid → LeadTo v ys mid new → LeadTo v (xs ++ ys) s new
  more_lead xs ys s mid new first second = record {
    kept = second.kept ∙ first.kept;
    state = second.state ∙ (λ k. plays_by (v.step (first.kept k)) ys (first.state k)) ∙ sym (plays_by-append (step_at s) xs ys (v.state s));
  }

  pub one_lead_more : (xs : List Actor) (a : Actor) (stepped : Bool) (s mid new : M) → LeadTo v xs s mid → IsAsked v a stepped mid new → LeadTo v (xs ++ a ∷ []) s new
  one_lead_more xs a stepped s mid new first asked = more_lead xs (a ∷ []) s mid new first (one_leads a stepped mid new asked)

  more_still : (xs ys : List Actor) (s mid new : M) → NoneStep v xs s mid → NoneStep v ys mid new → NoneStep v (xs ++ ys) s new
  more_still xs ys s mid new first second = record {
    none = steppers_append (step_at s) xs ys (v.state s)
        ∙ (λ k. first.none k ++ steppers_by (step_at s) ys (still_state (step_at s) xs (v.state s) first.none k))
        ∙ subst (λ m. steppers_by (step_at m) ys (v.state m) ≡ []) first.same second.none;
    same = second.same ∙ first.same;
  }

  pub row_still : (xs : List Actor) (f : ℕ → Actor) (i : ℕ) (stepped : Bool) (s mid new : M) → NoneStep v (xs ++ map f (range_with_len 0 i)) s mid → IsAsked v (f i) stepped mid new → stepped ≡ false
      → NoneStep v (xs ++ map f (range_with_len 0 (i + 1))) s new
  row_still xs f i stepped s mid new first asked idle =
      subst (λ zs. NoneStep v zs s new) (sym (row_more xs f i)) (more_still (xs ++ map f (range_with_len 0 i)) (f i ∷ []) s mid new first (one_still (f i) stepped mid new asked idle))

  module _ (form : Form) (p : ProgramShape) where
    abbrev lines_at : M → Bool → ℕ → List Actor → v.State → List ℕ
    lines_at s = lines_by (step_at s) form p (v.told form (v.kept s))

    line_is : (b : Bool) (n : ℕ) (a : Actor) (stepped : Bool) (s new : M) → IsAsked v a stepped s new
        → asked_line v form p b n a stepped s ≡ line_of (step_at s) form p (v.told form (v.kept s)) b n (v.state s) a (step_at s (v.state s) a)
    line_is b n a true s new asked = ap (line_of (step_at s) form p (v.told form (v.kept s)) b n (v.state s) a) (sym asked.steps)
    line_is true n a false s new asked = ap (line_of (step_at s) form p (v.told form (v.kept s)) true n (v.state s) a) (sym (asked.none refl))
    line_is false n a false s new asked = ap (line_of (step_at s) form p (v.told form (v.kept s)) false n (v.state s) a) (sym (asked.none refl))

    one_told : (b : Bool) (n : ℕ) (a : Actor) (stepped : Bool) (before after : List ℕ) (s new : M) → IsAsked v a stepped s new → after ≡ before ++ asked_line v form p b n a stepped s
        → AreTold v form p b n (a ∷ []) before s after new
    one_told b n a stepped before after s new asked text = record {
      lead = one_leads a stepped s new asked;
      text = text ∙ ap (λ l. before ++ l) (line_is b n a stepped s new asked ∙ sym (append-nil (line_of (step_at s) form p (v.told form (v.kept s)) b n (v.state s) a (step_at s (v.state s) a))));
    }

    pub more_told : (b : Bool) (n m : ℕ) (xs ys : List Actor) (before between after : List ℕ) (s mid new : M) → AreTold v form p b n xs before s between mid → AreTold v form p b m ys between mid after new
        → m ≡ n + length xs → AreTold v form p b n (xs ++ ys) before s after new
    more_told b n m xs ys before between after s mid new first second number = record {
      lead = more_lead xs ys s mid new first.lead second.lead;
      text = second.text ∙ (λ k. first.text k ++ lines_by (v.step (first.lead.kept k)) form p (v.told form (first.lead.kept k)) b (number k) ys (first.lead.state k))
          ∙ append_assoc before (lines_at s b n xs (v.state s)) (lines_at s b (n + length xs) ys (plays_by (step_at s) xs (v.state s)))
          ∙ ap (λ zs. before ++ zs) (sym (lines_append (step_at s) form p (v.told form (v.kept s)) b n xs ys (v.state s)));
    }

    pub one_more_told : (b : Bool) (n m : ℕ) (xs : List Actor) (a : Actor) (stepped : Bool) (before between after : List ℕ) (s mid new : M) → AreTold v form p b n xs before s between mid
        → IsAsked v a stepped mid new → after ≡ between ++ asked_line v form p b m a stepped mid → m ≡ n + length xs → AreTold v form p b n (xs ++ a ∷ []) before s after new
    one_more_told b n m xs a stepped before between after s mid new first asked text number =
        more_told b n m xs (a ∷ []) before between after s mid new first (one_told b m a stepped between after mid new asked text) number

    -- one actor more of a row, behind these
    pub row_told : (b : Bool) (n m : ℕ) (xs : List Actor) (f : ℕ → Actor) (i : ℕ) (stepped : Bool) (before between after : List ℕ) (s mid new : M)
        → AreTold v form p b n (xs ++ map f (range_with_len 0 i)) before s between mid → IsAsked v (f i) stepped mid new → after ≡ between ++ asked_line v form p b m (f i) stepped mid
        → m ≡ n + length (xs ++ map f (range_with_len 0 i)) → AreTold v form p b n (xs ++ map f (range_with_len 0 (i + 1))) before s after new
    row_told b n m xs f i stepped before between after s mid new first asked text number =
        subst (λ zs. AreTold v form p b n zs before s after new) (sym (row_more xs f i))
        (one_more_told b n m (xs ++ map f (range_with_len 0 i)) (f i) stepped before between after s mid new first asked text number)

    -- rounds after one in which nobody stepped
    still_told : (n : ℕ) (turn : List Actor) (k : ℕ) (before after : List ℕ) (s new : M) → NoneStep v turn s new → AreTold v form p false n turn before s after new
        → AreTold v form p false n (rounds_of k turn) before s after new
    still_told n turn k before after s new still one = record {
      lead = record {
        kept = one.lead.kept;
        state = one.lead.state ∙ still_state (step_at s) turn (v.state s) still.none ∙ sym (still_states (step_at s) turn k (v.state s) still.none);
      };
      text = one.text
          ∙ ap (λ zs. before ++ zs) (still_lines (step_at s) form p (v.told form (v.kept s)) n turn (v.state s) still.none ∙ sym (still_rounds (step_at s) form p (v.told form (v.kept s)) n turn k (v.state s) still.none));
    }

    -- all further rounds, where nobody steps in one
    pub rest_told : (n m i k : ℕ) (before between after : List ℕ) (s mid new : M) → AreTold v form p false n (rounds_of i (actors_of p)) before s between mid
        → AreTold v form p false m (actors_of p) between mid after new → NoneStep v (actors_of p) mid new → m ≡ n + length (rounds_of i (actors_of p))
        → AreTold v form p false n (rounds_of (i + k) (actors_of p)) before s after new
    rest_told n m i k before between after s mid new first one still number =
        subst (λ zs. AreTold v form p false n zs before s after new) (sym (rounds_on (actors_of p) i k))
        (more_told false n m (rounds_of i (actors_of p)) (rounds_of k (actors_of p)) before between after s mid new first
        (still_told m (actors_of p) k between after mid new still one) number)

    -- the picks and the rounds
    pub whole_told : (picks : List Actor) (rounds : ℕ) (before between after : List ℕ) (s mid new : M) → AreTold v form p true 1 picks before s between mid
        → AreTold v form p false (length picks + 1) (rounds_of rounds (actors_of p)) between mid after new → IsScheduleTold v form p picks rounds before s after new
    whole_told picks rounds before between after s mid new first second =
        let turns = rounds_of rounds (actors_of p) in
        record {
          lead = more_lead picks turns s mid new first.lead second.lead;
          text = second.text ∙ (λ k. first.text k ++ lines_by (v.step (first.lead.kept k)) form p (v.told form (first.lead.kept k)) false (length picks + 1) turns (first.lead.state k))
              ∙ append_assoc before (lines_at s true 1 picks (v.state s)) (lines_at s false (length picks + 1) turns (plays_by (step_at s) picks (v.state s)));
        }
