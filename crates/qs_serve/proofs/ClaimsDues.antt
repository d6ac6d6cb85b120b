-- What is due of questions, one behind another. The functions that answer them stand on it.
use Rattle.std.proofs.Common.{◌≡◌, ◌≢◌, ◌==◌, ◌∙◌, ◌⊎◌, ◌∷◌, ◌++◌, ◌&&◌, ℕ, Bool, true, false, List, [], length, Result, Ok, Err, Vec, append_assoc, ap, refl, sym, subst, inl, inr}
use Rattle.std.proofs.lemmas.List.{append-nil}
use Rattle.std.specs.Global.{Global}
use Rattle.std.specs.List.{AllByRecursion}
use Rattle.qs_line.specs.declared.question.Question.{Question}
use Rattle.qs_line.specs.audit.Line.{ask}
use Rattle.qs_line.specs.audit.Named.{clients_of}
use Rattle.qs_line.specs.declared.line.Format.{Format}
use Rattle.qs_line.specs.declared.parts.Part.{Part}
use Rattle.qs_program.specs.audit.Program.{ProgramShape}
use Rattle.qs_report.specs.declared.faults.Fault.{Fault}
use Rattle.qs_report.specs.declared.faults.Fault.TheVariants as fault
use Rattle.qs_standings.specs.Lists.{HasOne}
use Rattle.qs_standings.proofs.Lists.{has_back, has_front}
use Rattle.qs_serve.proofs.Dues.{of_named}
use Rattle.qs_serve.specs.Due.{AreAnswersDue, AreAnswersTo, HasParts, IsAnswerAfterDue, IsAnswerTextTo, IsDueOfProgram, IsOfProgram, IsOutOfMemory, IsUnanswered}
use Rattle.qs_serve.specs.declared.due.Due.{Due}
use Rattle.qs_serve.specs.declared.due.Due.TheVariants.{Text, No, Refused}

and_true : (b : Bool) → b ≡ (b && true)
and_true true = refl
and_true false = refl

and_assoc : (a b c : Bool) → ((a && b) && c) ≡ (a && (b && c))
and_assoc true b c = refl
and_assoc false b c = refl

-- the answers to some questions, and behind them those to others
pub answers_joined : (how : Format) (p : ProgramShape) (limit : ℕ) (clients : List ℕ) (claims others : List Question)
    (hold holds : Bool) (text rest : List ℕ) → AreAnswersTo how p limit clients claims hold text
    → AreAnswersTo how p limit clients others holds rest
    → AreAnswersTo how p limit clients (claims ++ others) (hold && holds) (text ++ rest)
answers_joined how p limit clients [] others hold holds text rest (true_by, none) are =
    subst (λ b. AreAnswersTo how p limit clients others b (text ++ rest)) (sym (ap (λ b. b && holds) true_by))
    (subst (λ t. AreAnswersTo how p limit clients others holds (t ++ rest)) (sym none) are)
answers_joined how p limit clients (c ∷ cs) others hold holds text rest (own, behind, one, all, answer, are, both, e) is = (
  own,
  behind ++ rest,
  one,
  all && holds,
  answer,
  answers_joined how p limit clients cs others all holds behind rest are is,
  ap (λ b. b && holds) both ∙ and_assoc one all holds,
  ap (λ t. t ++ rest) e ∙ append_assoc own behind rest,
)

-- an answer more is behind those before
pub answers_more : (how : Format) (p : ProgramShape) (limit : ℕ) (clients : List ℕ) (claims : List Question) (claim : Question)
    (hold holds : Bool) (text own : List ℕ) → AreAnswersTo how p limit clients claims hold text
    → IsAnswerTextTo how p claim limit clients holds own
    → AreAnswersTo how p limit clients (claims ++ claim ∷ []) (hold && holds) (text ++ own)
answers_more how p limit clients claims claim hold holds text own are is =
    answers_joined how p limit clients claims (claim ∷ []) hold holds text own are
    (own, [], holds, true, is, (refl, refl), and_true holds, sym (append-nil own))

-- one more claim of which something is so
pub all_more : {A : Type 0} (P : A → Type 0) (xs : List A) (x : A) → AllByRecursion P xs → P x → AllByRecursion P (xs ++ x ∷ [])
all_more P [] x all it = (it, tt)
all_more P (y ∷ ys) x all it = (all.0, all_more P ys x all.1 it)

module _ (how : Format) (p : ProgramShape) (limit : ℕ) (clients : List ℕ) where
  -- the parts of an answer
  pub answer_of : (claim : Question) (due : Due) (part : Vec ℕ Global × Bool) → HasParts due (Ok part)
      → IsAnswerAfterDue how p claim limit clients due → IsAnswerTextTo how p claim limit clients part.1 part.0.items
  answer_of claim due (text, true) e is = subst (IsAnswerAfterDue how p claim limit clients) e is
  answer_of claim due (text, false) e is = subst (IsAnswerAfterDue how p claim limit clients) e is

  -- what is due where one of some claims is not answered
  pub fault_of_one : (claims : List Question) (claim : Question) (due : Due) (f : Fault) → HasParts due (Err f)
      → ((P : Question → Type 0) → P claim → HasOne P claims) → IsAnswerAfterDue how p claim limit clients due
      → AreAnswersDue how p claims limit clients (Refused f)
  fault_of_one claims claim due f e one is = by f (subst (IsAnswerAfterDue how p claim limit clients) e is)
    where
      by : (g : Fault) → IsAnswerAfterDue how p claim limit clients (Refused g) → AreAnswersDue how p claims limit clients (Refused g)
      by fault.Memory its = tt
      by (fault.Outcomes g) its = one (λ c. IsUnanswered p c limit clients g) its
      by _ its = its

  -- the parts of several
  answers_of : (claims : List Question) (due : Due) (part : Vec ℕ Global × Bool) → HasParts due (Ok part)
      → AreAnswersDue how p claims limit clients due → AreAnswersTo how p limit clients claims part.1 part.0.items
  answers_of claims due (text, true) e is = subst (AreAnswersDue how p claims limit clients) e is
  answers_of claims due (text, false) e is = subst (AreAnswersDue how p claims limit clients) e is

  -- a fault of the first of two parts, or of the second, is one of both
  pub first_fault : (claims others : List Question) (due : Due) (f : Fault) → HasParts due (Err f)
      → AreAnswersDue how p claims limit clients due → AreAnswersDue how p (claims ++ others) limit clients (Refused f)
  first_fault claims others due f e is = by f (subst (AreAnswersDue how p claims limit clients) e is)
    where
      by : (g : Fault) → AreAnswersDue how p claims limit clients (Refused g) → AreAnswersDue how p (claims ++ others) limit clients (Refused g)
      by fault.Memory its = tt
      by (fault.Outcomes g) its = has_front (λ c. IsUnanswered p c limit clients g) claims others its
      by _ its = its

  pub second_fault : (claims others : List Question) (due : Due) (f : Fault) → HasParts due (Err f)
      → AreAnswersDue how p others limit clients due → AreAnswersDue how p (claims ++ others) limit clients (Refused f)
  second_fault claims others due f e is = by f (subst (AreAnswersDue how p others limit clients) e is)
    where
      by : (g : Fault) → AreAnswersDue how p others limit clients (Refused g) → AreAnswersDue how p (claims ++ others) limit clients (Refused g)
      by fault.Memory its = tt
      by (fault.Outcomes g) its = has_back (λ c. IsUnanswered p c limit clients g) claims others its
      by _ its = its

  -- the texts of both, one behind the other, are the answers to all
  pub parts_joined : (claims others : List Question) (one other : Due) (part rest : Vec ℕ Global × Bool) (text : List ℕ) (hold : Bool)
      → HasParts one (Ok part) → HasParts other (Ok rest) → text ≡ part.0.items ++ rest.0.items → hold ≡ (part.1 && rest.1)
      → AreAnswersDue how p claims limit clients one → AreAnswersDue how p others limit clients other
      → AreAnswersTo how p limit clients (claims ++ others) hold text
  parts_joined claims others one other part rest text hold e f texts both are is =
      subst (λ b. AreAnswersTo how p limit clients (claims ++ others) b text) (sym both)
      (subst (AreAnswersTo how p limit clients (claims ++ others) (part.1 && rest.1)) (sym texts)
      (answers_joined how p limit clients claims others part.1 rest.1 part.0.items rest.0.items
      (answers_of claims one part e are) (answers_of others other rest f is)))

-- what is not empty is not the empty list
pub not_empty : {A : Type 0} (xs : List A) → (length xs == 0) ≡ false → xs ≢ []
not_empty xs e none = absurd (let h : (length xs == 0) ≡ true = rw none refl in cc (h, e))

-- it is due by what was asked for, where the conditions speak of what the program has
pub due_by_claims : (how : Format) (p : ProgramShape) (claims : List Question) (limit threads : ℕ) (front : List Part) (clients : List ℕ)
    (due : Due) → claims ≢ [] → AllByRecursion (IsOfProgram p) claims → clients_of p front ≡ Ok clients
    → AreAnswersDue how p claims limit clients due → IsOutOfMemory due ⊎ IsDueOfProgram (ask claims how limit threads front) [] p due
due_by_claims how p claims limit threads front clients (Text bytes) some known named is =
    inr (some, known, of_named (λ xs. AreAnswersTo how p limit xs claims true bytes.items) (clients_of p front) clients named is)
due_by_claims how p claims limit threads front clients (No bytes) some known named is =
    inr (some, known, of_named (λ xs. AreAnswersTo how p limit xs claims false bytes.items) (clients_of p front) clients named is)
due_by_claims how p claims limit threads front clients (Refused fault.Memory) some known named is = inl tt
due_by_claims how p claims limit threads front clients (Refused (fault.Outcomes f)) some known named is =
    inr (of_named (λ xs. HasOne (λ claim. IsUnanswered p claim limit xs f) claims) (clients_of p front) clients named is)
due_by_claims how p claims limit threads front clients (Refused _) some known named is = absurd is
