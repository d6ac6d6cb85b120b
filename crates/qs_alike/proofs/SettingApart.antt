-- Where each client of a set has its own number for its class, and each other one the number of the first of its class
-- outside of the set, the clients of the set are alone, and the others are of one class exactly where they were.
use Rattle.std.proofs.Common.{◌≡◌, ℕ, ◌<◌, ◌≤◌, arith, Bool, true, false, true≢false, length, refl, sym, ap, ◌∙◌, inl, inr}
use Rattle.qs_alike.proofs.Common.{cases_lt, ProgramShape}
use Rattle.qs_alike.specs.Apart.{AreApartUpTo, AreSetApart}
use Rattle.qs_alike.specs.Changes.{AreClasses, Classes}

-- where the last one was passed, all have their classes
pub all_apart : (before : Classes) (apart : ℕ → Bool) (to : ℕ) (k : Classes) → 8 ≤ to → AreApartUpTo before apart to k
    → AreApartUpTo before apart 8 k
all_apart before apart to k past split = λ c. (λ low. (split c).0 (omega (arith, past, low)), (split c).1)

module _ (p : ProgramShape) (before : Classes) (apart : ℕ → Bool) (k : Classes) (few : length p.clients ≤ 8)
    (are : AreClasses p before) (split : AreApartUpTo before apart 8 k) where
  -- the class of one below 8 is below 8, and that of any other one is not
  crossed : (c d : ℕ) → c < 8 → 8 ≤ d → k c ≡ k d → ⊥
  crossed c d low high e =
      let within = ((split c).0 low).within in let past = (split d).1 high in omega (arith, within, past, e, low, high)

  low_alone : (c d : ℕ) (b : Bool) → c < 8 → d < 8 → apart c ≡ true → apart d ≡ b → k c ≡ k d → c ≡ d
  low_alone c d true low lower is too e = sym (((split c).0 low).alone is) ∙ e ∙ ((split d).0 lower).alone too
  low_alone c d false low lower is not e =
      let out : apart (k d) ≡ false = ((split d).0 lower).outside not in
      let here : k d ≡ c = sym e ∙ ((split c).0 low).alone is in
      absurd (true≢false (sym is ∙ (ap apart (sym here) ∙ out)))

  -- two of one class are both below 8, or none of them is
  sides : {A : Type 0} (c d : ℕ) → k c ≡ k d → (c < 8 → d < 8 → A) → (8 ≤ c → 8 ≤ d → A) → A
  sides c d e under past = elim (cases_lt c 8) [
    | inl low ↦ elim (cases_lt d 8) [ inl lower ↦ under low lower | inr high ↦ absurd (crossed c d low high e) ]
    | inr high ↦ elim (cases_lt d 8) [ inl lower ↦ absurd (crossed d c lower high (sym e)) | inr higher ↦ past high higher ]
  ]

  alone : (c d : ℕ) → apart c ≡ true → k c ≡ k d → c ≡ d
  alone c d is e = sides c d e (λ low lower. low_alone c d (apart d) low lower is refl e) (λ high higher. sym ((split c).1 high) ∙ e ∙ (split d).1 higher)

  were_alike : (c d : ℕ) → k c ≡ k d → before c ≡ before d
  were_alike c d e =
      sides c d e (λ low lower. sym ((split c).0 low).alike ∙ ap before e ∙ ((split d).0 lower).alike)
      (λ high higher. ap before (sym ((split c).1 high) ∙ e ∙ (split d).1 higher))

  -- the first of a class is the first for each of it
  not_before : (c d : ℕ) → c < 8 → d < 8 → apart c ≡ false → apart d ≡ false → before c ≡ before d → k c < k d → ⊥
  not_before c d low lower out too e less =
      let first = (split c).0 low in
      ((split d).0 lower).none too (k c) less (first.outside out) (first.alike ∙ e)

  are_alike : (c d : ℕ) → apart c ≡ false → apart d ≡ false → before c ≡ before d → k c ≡ k d
  are_alike c d out too e = elim (cases_lt c 8) [
    | inl low ↦ elim (cases_lt d 8) [
      | inl lower ↦
          let less : k c < k d → ⊥ = not_before c d low lower out too e in
          let more : k d < k c → ⊥ = not_before d c lower low too out (sym e) in omega (arith, less, more)
      | inr high ↦ ap k (sym (are.alone d c (omega (arith, few, high)) (sym e)))
    ]
    | inr high ↦ ap k (are.alone c d (omega (arith, few, high)) e)
  ]

  pub set_apart : AreSetApart before apart k
  set_apart = record {
    alone = alone;
    others = λ c d out too. (were_alike c d, are_alike c d out too);
  }

  pub still_classes : AreClasses p k
  still_classes = record {
    blocks = λ c d e. are.blocks c d (were_alike c d e);
    variables = λ c d e. are.variables c d (were_alike c d e);
    alone = λ c d past e. are.alone c d past (were_alike c d e);
  }
