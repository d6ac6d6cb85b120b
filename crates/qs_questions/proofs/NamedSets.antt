-- The clients that a list names, as a byte that grows with each of the list.
use Rattle.std.proofs.Common.{◌≡◌, ℕ, ◌+◌, ◌<◌, Bool, true, false, ◌||◌, List, [], ◌∷◌, ◌++◌, length, get_or, take, refl, ap, ap₂, sym, ◌∙◌, bit_or}
use Rattle.std.proofs.lemmas.List.Folds.{list_any-append}
use Rattle.qs_questions.proofs.Common.{in_byte, in_or, ProgramShape, Relation, Step, Summand}
use Rattle.qs_conditions.specs.declared.condition.Step.TheVariants as s
use Rattle.qs_standings.proofs.RowSteps.{take_more}
use Rattle.qs_questions.specs.NamedClients.{is_named, named_clients, names}
use Rattle.qs_questions.specs.Questions.{summands_of}
use Rattle.qs_questions.proofs.UnknownPlaces.{summands_append}

or_false : (b : Bool) → (b || false) ≡ b
or_false true = refl
or_false false = refl

pub both_sets : (a b : ℕ) (f g : ℕ → Bool) → in_byte a ≡ f → in_byte b ≡ g → (c : ℕ) → in_byte (bit_or a b) c ≡ (f c || g c)
both_sets a b f g e h c = in_or a b c ∙ ap₂ (λ u v. u || v) (λ i. e i c) (λ i. h i c)

-- what a list names is what its parts name
module _ {X : Type 0} (F : List X → ℕ → Bool)
    (join : (xs ys : List X) (c : ℕ) → F (xs ++ ys) c ≡ (F xs c || F ys c)) (xs : List X) where
  pub set_more : (i : ℕ) (x : X) (set row : ℕ) → i < length xs → x ≡ get_or xs i x → in_byte row ≡ F (x ∷ [])
      → ((c : ℕ) → in_byte set c ≡ F (take i xs) c) → (c : ℕ) → in_byte (bit_or set row) c ≡ F (take (i + 1) xs) c
  set_more i x set row within item here before c =
      in_or set row c
      ∙ ap₂ (λ a b. a || b) (before c) (λ j. here j c)
      ∙ sym (join (take i xs) (x ∷ []) c)
      ∙ ap (λ ys. F ys c) (ap (λ y. take i xs ++ y ∷ []) item ∙ sym (take_more xs i x within))

module _ (p : ProgramShape) where
  pub named_join : (xs ys : List Summand) (c : ℕ) → is_named p (xs ++ ys) c ≡ (is_named p xs c || is_named p ys c)
  named_join xs ys c = list_any-append (λ (x : Summand). names p x.value c) xs ys

  pub steps_join : (xs ys : List Step) (c : ℕ)
      → named_clients p (xs ++ ys) c ≡ (named_clients p xs c || named_clients p ys c)
  steps_join xs ys c =
      ap (λ (zs : List Summand). is_named p zs c) (summands_append xs ys) ∙ named_join (summands_of xs) (summands_of ys) c

  pub one_named : (x : Summand) (row : ℕ) → in_byte row ≡ names p x.value → in_byte row ≡ is_named p (x ∷ [])
  one_named x row e = λ i c. at c i
    where
      at : (c : ℕ) → in_byte row c ≡ is_named p (x ∷ []) c
      at c = (λ i. e i c) ∙ sym (or_false (names p x.value c))

  -- what a comparison names
  pub compare_named : (step : Step) (left right : List Summand) (relation : Relation) (a b : ℕ)
      → step ≡ s.Compare left relation right → in_byte a ≡ is_named p left → in_byte b ≡ is_named p right
      → in_byte (bit_or a b) ≡ named_clients p (step ∷ [])
  compare_named step left right relation a b is one other = λ i c. at c i
    where
      at : (c : ℕ) → in_byte (bit_or a b) c ≡ named_clients p (step ∷ []) c
      at c =
          both_sets a b (is_named p left) (is_named p right) one other c
          ∙ ap (λ t. is_named p left c || t) (sym (or_false (is_named p right c)))
          ∙ sym (named_join left (right ++ []) c ∙ ap (λ t. is_named p left c || t) (named_join right [] c))
          ∙ ap (λ t. named_clients p (t ∷ []) c) (sym is)
