-- A change of alike clients of which a condition names none leaves each value as it was, and with them what the
-- condition says.
use Rattle.std.proofs.Common.{◌≡◌, ℕ, subst, Bool, true, false, if◌then◌else◌, ◌||◌, List, [], ◌∷◌, ◌++◌, slice_index_or, Option, Some, None, refl, ap, ap₂, sym, arith, ◌∙◌, ℤ, pos, ◌+ℤ◌, ◌-ℤ◌}
use Rattle.qs_questions.proofs.Common.{AllByRecursion, client_at, found_at, in_byte, is_among, Name, OrderOutcome, ProgramShape, seeks, Step, sum_of, Summand, Value}
use Rattle.qs_objects.proofs.Choices.{eqb_self}
use Rattle.qs_program.specs.audit.Values.{relates}
use Rattle.qs_meaning.proofs.Each.{each_back, each_front}
use Rattle.qs_conditions.specs.declared.condition.Value.TheVariants.{Number, Variable, Reply}
use Rattle.qs_conditions.specs.declared.condition.Step.TheVariants as s
use Rattle.qs_alike.specs.Changes.{AreAllAlike, AreClasses, Change, Classes, changed_outcome}
use Rattle.qs_alike.specs.Apart.{AreSetApart}
use Rattle.qs_questions.specs.NamedClients.{AreClassesFor, is_client, is_named, named_clients, names}
use Rattle.qs_questions.specs.Answering.{answered, last_of, run_steps}
use Rattle.qs_questions.specs.Claims.{ChangesKeepSought}
use Rattle.qs_questions.specs.Questions.{client_of, summands_of, value_at, variable_in, variable_value}

-- ---- values

module _ (p : ProgramShape) (x : Change) (o : OrderOutcome) where
  variable_same : (found : Option ℕ) (name : Name) → ((c : ℕ) → is_client found c ≡ true → x.old c ≡ c)
      → variable_value (changed_outcome x o) (variable_in p found name) ≡ variable_value o (variable_in p found name)
  variable_same None name stay = refl
  variable_same (Some d) name stay = by (is_among names_of name)
    where
      names_of : List Name
      names_of = (client_at p d).variables

      by : (b : Bool)
          → variable_value (changed_outcome x o) (if b then Some (record { client = d; number = found_at names_of name }) else None)
          ≡ variable_value o (if b then Some (record { client = d; number = found_at names_of name }) else None)
      by true = ap (λ c. slice_index_or (o.locals c) (found_at names_of name) (pos 0)) (stay d (eqb_self d))
      by false = refl

  value_same : (v : Value) → ((c : ℕ) → names p v c ≡ true → x.old c ≡ c)
      → value_at p (changed_outcome x o) v ≡ value_at p o v
  value_same (Number n) stay = refl
  value_same (Variable client name) stay = variable_same (client_of p client) name stay
  value_same (Reply object text args) stay = refl

  values_same : (xs : List Summand) → ((c : ℕ) → is_named p xs c ≡ true → x.old c ≡ c)
      → AllByRecursion (λ (y : Summand). value_at p (changed_outcome x o) y.value ≡ value_at p o y.value) xs
  values_same [] stay = tt
  values_same (y ∷ ys) stay = (
    value_same y.value (λ c h. stay c (ap (λ b. b || is_named p ys c) h)),
    values_same ys (λ c h. stay c (let e : (names p y.value c || is_named p ys c) ≡ true = grind (arith, h) in e)),
  )

-- ---- the answer by values

module _ (f g : Value → ℤ) where
  sum_same : (xs : List Summand) → AllByRecursion (λ (y : Summand). f y.value ≡ g y.value) xs → sum_of f xs ≡ sum_of g xs
  sum_same [] h = refl
  sum_same (y ∷ ys) h = ap₂ (λ a b. (if y.negative then pos 0 -ℤ a else a) +ℤ b) h.0 (sum_same ys h.1)

  run_same : (steps : List Step) (stack : List Bool)
      → AllByRecursion (λ (y : Summand). f y.value ≡ g y.value) (summands_of steps)
      → run_steps f steps stack ≡ run_steps g steps stack
  run_same [] stack h = refl
  run_same (s.Compare left relation right ∷ steps) stack h =
      let Same : Summand → Type 0 = λ y. f y.value ≡ g y.value in
      let rest = each_back Same left (right ++ summands_of steps) h in
      let first = sum_same left (each_front Same left (right ++ summands_of steps) h) in
      let second = sum_same right (each_front Same right (summands_of steps) rest) in
      ap₂ (λ a b. run_steps f steps (relates relation a b ∷ stack)) first second
      ∙ run_same steps (relates relation (sum_of g left) (sum_of g right) ∷ stack)
      (each_back Same right (summands_of steps) rest)
  run_same (step ∷ steps) stack h = run_same steps (answered g stack step) h

pub changes_keep_sought : ChangesKeepSought
changes_keep_sought p claim k are x is o =
    ap (λ stack. seeks claim.quantifier (last_of stack))
    (run_same (value_at p (changed_outcome x o)) (value_at p o) claim.condition []
    (values_same p x o (summands_of claim.condition)
    (λ c named. let e : c ≡ x.new c = are.alone c (x.new c) named (sym (is.alike c)) in ap x.old e ∙ is.there c)))

-- ---- classes

pub classes_for : (p : ProgramShape) (steps : List Step) (before k : Classes) (set : ℕ)
    → in_byte set ≡ named_clients p steps → AreAllAlike p before → AreClasses p k
    → AreSetApart before (in_byte set) k → AreClassesFor p steps k
classes_for p steps before k set exact alike are split =
    let named : AreSetApart before (named_clients p steps) k = subst (λ f. AreSetApart before f k) exact split in
    record {
      classes = are;
      alone = named.alone;
      others = λ c d there too out other same. (named.others c d out other).1 (alike c d there too same);
    }
