-- What the answer to a claim says of runs: a finished run's order is complete, so what no complete order comes to is
-- not what the run shows; and each complete order is reached by some picks. A run's order is legal, and so is each
-- beginning of it. Of an answer no more is used than what it says of the witness, or of there being none: which alike
-- clients stand for one another is nothing to it.
use Rattle.std.proofs.Common.{arith, ◌≡◌, ◌∙◌, ℕ, Bool, true, false, not, List, ◌++◌, Option, Some, None, refl, sym, ap, subst}
use Rattle.std.specs.Prelude.{IfSome, is_some}
use Rattle.qs_objects.specs.declared.held.Ticket.{Ticket}
use Rattle.qs_program.specs.audit.Program.{ProgramShape}
use Rattle.qs_program.specs.Sound.{IsSound}
use Rattle.qs_meaning.specs.audit.Configurations.{IsComplete, first_configuration}
use Rattle.qs_meaning.specs.Configurations.{OrderOutcome, outcome_in, outcome_of}
use Rattle.qs_meaning.specs.audit.Serial.{IsLegal}
use Rattle.qs_meaning.proofs.Orders.{legal-front}
use Rattle.qs_conditions.specs.Claims.{answer_by, seeks}
use Rattle.qs_conditions.specs.Conditions.{Tree}
use Rattle.qs_conditions.specs.declared.claim.Quantifier.{Quantifier}
use Rattle.qs_conditions.specs.declared.claim.Quantifier.TheVariants as q
use Rattle.qs_outcomes.specs.Answers.{AnswerShape, IsWitnessAfter, NoneMeets}
use Rattle.qs_standings.specs.Standings.{StandingShape}
use Rattle.qs_outcomes.specs.throughout.Courses.{IsCourseWitnessAfter, NoneMeetsOnTheWay, passed}
use Rattle.qs_alike.specs.Changes.{Classes}
use Rattle.qs_questions.specs.Claims.{IsAnswerBy, is_sought}
use Rattle.qs_questions.specs.Questions.{holds_at}
use Rattle.qs_questions.proofs.Sought.{steps_answer}
use Rattle.qs_plain_laws.proofs.orders.BlockReached.{orders_played}
use Rattle.qs_core_laws.proofs.orders.BlocksPlayed.{core_orders_played}
use Rattle.qs_core_laws.proofs.ProgramCodes.{program_codes}
use Rattle.qs_syncset.specs.declared.mode.Mode.{Mode}
use Rattle.qs_played.specs.declared.schedule.actor.Actor.{Actor}
use Rattle.qs_promises.specs.Answers.{AnswersAreOfRuns, AtEveryEnd, AtSomeEnd, ComesTo, OnEveryWay, OnSomeWay, Says}
use Rattle.qs_promises.specs.audit.Runs.{by_rules, on_machine}
use Rattle.qs_promises.proofs.Calls.{run_of_played, run_of_played_in}
use Rattle.qs_promises.proofs.Ending.{finished_covered, machine_reaches, rules_reach}
use Rattle.qs_promises.proofs.SerialPlaces.{serial_order}

not_true : (b : Bool) → not b ≡ true → b ≡ false
not_true b e = grind arith

not_false : (b : Bool) → not b ≡ false → b ≡ true
not_false b e = grind arith

-- each legal order is come to
pub rules_come : (p : ProgramShape) → IsSound p → (order : List Ticket) → IsLegal p order
    → (picks : List Actor) × ComesTo p (by_rules picks 0) order
rules_come p sound order legal =
    let found = orders_played p sound order legal in
    let there = found.1 in
    (there.picks, record { shown = found.0; run = run_of_played p there.picks 0 found.0 there.played; order = there.order; ended = there.ended })

pub machine_comes : (p : ProgramShape) → IsSound p → (mode : Mode) (size : ℕ) (order : List Ticket) → IsLegal p order
    → (picks : List Actor) × ComesTo p (on_machine mode size picks 0) order
machine_comes p sound mode size order legal =
    let codes = program_codes p sound mode in
    let found = core_orders_played p sound mode codes.0 codes.1 size order legal in
    let there = found.1 in
    (there.picks, record { shown = found.0; run = run_of_played_in p mode size there.picks 0 found.0 there.played; order = there.order; ended = there.ended })

-- ---- what an answer gives

-- what is known of the witness, or where there is none
abbrev Gives : (none : Type 0) → (some : StandingShape → Type 0) → Option StandingShape → Type 0
Gives none some None = none
Gives none some (Some s) = some s

gives : {N : Type 0} {P Q : StandingShape → Type 0} → ((s : StandingShape) → P s → Q s) → (w : Option StandingShape)
    → (w ≡ None → N) → IfSome w P → Gives N Q w
gives f None none some = none refl
gives f (Some s) none some = f s some

module _ (p : ProgramShape) (front : List Ticket) (asked : OrderOutcome → Bool) where
  -- a complete order that begins with the front and comes to what is asked for
  record IsMetEnd (s : StandingShape) : Type 0 where
    pub rest : List Ticket
    pub whole : s.order ≡ front ++ rest
    pub complete : IsComplete p s.order
    pub met : asked (outcome_of p s.order) ≡ true

  abbrev Given : Quantifier → Option StandingShape → Type 0
  Given q.Always w = Gives (NoneMeets p front asked) IsMetEnd w
  Given q.Some w = Gives (NoneMeets p front asked) IsMetEnd w
  Given _ w = Gives (NoneMeetsOnTheWay p front asked) (IsCourseWitnessAfter p front asked) w

  met_end : (k : Classes) (s : StandingShape) → IsWitnessAfter p k front asked s → IsMetEnd s
  met_end k s is = record {
    rest = is.end.followed.rest;
    whole = is.end.followed.whole;
    complete = is.end.complete;
    met = ap asked (sym is.end.outcome) ∙ is.met;
  }

  given : (kind : Quantifier) (k : Classes) (a : AnswerShape) → IsAnswerBy kind p k front asked a → Given kind a.witness
  given q.Always k a is = gives (met_end k) a.witness (λ e. (is.none e).0) is.witness
  given q.Some k a is = gives (met_end k) a.witness (λ e. (is.none e).0) is.witness
  given _ k a is = gives (λ s way. way) a.witness (λ e. (is.none e).0) is.witness

-- ---- what it says of runs

module _ (p : ProgramShape) (sound : IsSound p) (c : Tree) (front : List Ticket) (asked : OrderOutcome → Bool) where
  -- what no complete order comes to, no finished run does
  every_end : (holds : Bool) → ((o : OrderOutcome) → asked o ≡ false → holds_at p c o ≡ holds)
      → NoneMeets p front asked → AtEveryEnd holds p c front
  every_end holds turn none way r run finished rest order =
      let covered = finished_covered p sound way r run finished in
      let met : asked (outcome_of p (front ++ rest)) ≡ false = none rest (subst (IsComplete p) order covered.complete) in
      (turn (outcome_of p r.order) (ap (λ o. asked (outcome_of p o)) order ∙ met), covered.states)

  -- a complete order is reached
  some_end : (holds : Bool) → ((o : OrderOutcome) → asked o ≡ true → holds_at p c o ≡ holds)
      → (s : StandingShape) → IsMetEnd p front asked s → AtSomeEnd holds p c front
  some_end holds turn s is =
      let order = front ++ is.rest in
      let complete = subst (IsComplete p) is.whole is.complete in
      record {
        rest = is.rest;
        complete = complete;
        end = turn (outcome_of p order) (ap (λ o. asked (outcome_of p o)) (sym is.whole) ∙ is.met);
        rules = rules_reach p sound order complete;
        machine = λ mode size. machine_reaches p sound mode size order complete;
      }

  every_way : (holds : Bool) → ((o : OrderOutcome) → asked o ≡ false → holds_at p c o ≡ holds)
      → NoneMeetsOnTheWay p front asked → OnEveryWay holds p c front
  every_way holds turn none way r run before later order =
      let legal : IsLegal p ((front ++ before) ++ later) = subst (IsLegal p) order (serial_order p sound way r run).legal in
      turn (passed p (front ++ before)) (none before (legal-front p (first_configuration p) (front ++ before) later legal))

  some_way : (holds : Bool) → ((o : OrderOutcome) → asked o ≡ true → holds_at p c o ≡ holds)
      → (s : StandingShape) → IsCourseWitnessAfter p front asked s → OnSomeWay holds p c front
  some_way holds turn s is =
      let whole = is.on_the_way.whole in
      let order = front ++ is.on_the_way.rest in
      let legal = subst (IsLegal p) whole is.on_the_way.legal in
      record {
        rest = is.on_the_way.rest;
        legal = legal;
        stands = turn (passed p order) (ap asked (ap (passed p) (sym whole) ∙ sym (ap outcome_in is.on_the_way.there)) ∙ is.met);
        rules = rules_come p sound order legal;
        machine = λ mode size. machine_comes p sound mode size order legal;
      }

  -- by the quantifier, and by whether there is a witness
  says : (kind : Quantifier) → ((o : OrderOutcome) → asked o ≡ seeks kind (holds_at p c o))
      → (w : Option StandingShape) → Given p front asked kind w → Says kind (answer_by kind (is_some w)) p c front
  says q.Always means None none = every_end true (λ o e. not_false (holds_at p c o) (sym (means o) ∙ e)) none
  says q.Always means (Some s) end = some_end false (λ o e. not_true (holds_at p c o) (sym (means o) ∙ e)) s end
  says q.Some means None none = every_end false (λ o e. sym (means o) ∙ e) none
  says q.Some means (Some s) end = some_end true (λ o e. sym (means o) ∙ e) s end
  says q.Throughout means None none = every_way true (λ o e. not_false (holds_at p c o) (sym (means o) ∙ e)) none
  says q.Throughout means (Some s) way = some_way false (λ o e. not_true (holds_at p c o) (sym (means o) ∙ e)) s way
  says _ means None none = every_way false (λ o e. sym (means o) ∙ e) none
  says _ means (Some s) way = some_way true (λ o e. sym (means o) ∙ e) s way

pub answers_of_runs : AnswersAreOfRuns
answers_of_runs p sound claim c steps front a (k, classes, is) =
    says p sound c front (is_sought claim p) claim.quantifier (λ o. steps_answer p o claim c steps) a.witness
    (given p front (is_sought claim p) claim.quantifier k a is)
