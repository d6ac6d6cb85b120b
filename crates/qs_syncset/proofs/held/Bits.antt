-- A byte stands for a set of handlers: setting a bit adds one, clearing it removes one, and a set that shrinks has
-- fewer. The computation of held sets works on such bytes, and it comes to an end because the sets shrink. It goes by
-- cases on whether two bits are the same, and counts the eight bits by induction.
use Rattle.std.proofs.Common.{◌≡◌, ◌≢◌, ℕ, Bool, zero, suc, ◌+◌, ◌-◌, ◌*◌, ◌%◌, ◌<◌, ◌≤◌, ◌^◌, ◌⊎◌, inl, inr, true, false, get_or, refl, sym, ap, subst, ◌∙◌, arith, bit_and, bit_or, min, w8, ◌&&◌, ◌==◌}
use Rattle.std.specs.Int.{bit_at}
use Rattle.std.proofs.lemmas.Bool.{cases_eq, cases_lt}
use Rattle.std.proofs.lemmas.Nat.Bits.{bit_at_and, bit_at-lt, bit_at_set_same, bit_at_set_other, bit_at_clear_same, bit_at_clear_other, bit_at-zero, same_from_bits_below}
use Rattle.qs_program.specs.audit.Limits.{most_handlers}
use Rattle.qs_meaning.specs.audit.Solo.{put}
use Rattle.qs_objects.specs.ByteSets.{in_byte}
use Rattle.qs_syncset.specs.held.Bytes.{size, total_below, truths}
use Rattle.qs_syncset.specs.held.Flow.{without}
use Rattle.qs_syncset.proofs.held.Paths.{put_same, put_other, without_called, without_other}

zero_or_one : (x : ℕ) → x < 2 → (x ≡ 0) ⊎ (x ≡ 1)
zero_or_one x small = elim (cases_eq x 0) [ inl e ↦ inl e | inr ne ↦ inr (omega arith) ]

both_one : (x y : ℕ) → (x ≡ 0) ⊎ (x ≡ 1) → (y ≡ 0) ⊎ (y ≡ 1) → (min x y == 1) ≡ (x == 1) && (y == 1)
both_one x y (inl a) (inl b) = rw (a, b) refl
both_one x y (inl a) (inr b) = rw (a, b) refl
both_one x y (inr a) (inl b) = rw (a, b) refl
both_one x y (inr a) (inr b) = rw (a, b) refl

-- a handler is in the bits that two sets share where it is in both
pub in_both : (a b h : ℕ) → in_byte (bit_and a b) h ≡ in_byte a h && in_byte b h
in_both a b h =
    ap (λ x. x == 1) (bit_at_and a b h)
    ∙ both_one (bit_at a h) (bit_at b h) (zero_or_one (bit_at a h) (bit_at-lt a h)) (zero_or_one (bit_at b h) (bit_at-lt b h))

-- with handler h
pub with_handler : (s h k : ℕ) → h < most_handlers → in_byte (bit_or s (1 * 2 ^ h % 256)) k ≡ put (in_byte s) h true k
with_handler s h k below = elim (cases_eq h k) [
  | inl same ↦ subst (λ j. in_byte (bit_or s (1 * 2 ^ h % 256)) j ≡ put (in_byte s) h true j) same
      (ap (λ x. x == 1) (bit_at_set_same w8 s h below) ∙ sym (put_same (in_byte s) h true))
  | inr other ↦ ap (λ x. x == 1) (bit_at_set_other w8 s h below k (λ e. other (sym e))) ∙ sym (put_other (in_byte s) h k true other)
]

-- without handler h
pub without_handler : (s h k : ℕ) → h < most_handlers → k < most_handlers → in_byte (bit_and s (255 - 1 * 2 ^ h % 256)) k ≡ put (in_byte s) h false k
without_handler s h k below small = elim (cases_eq h k) [
  | inl same ↦ subst (λ j. in_byte (bit_and s (255 - 1 * 2 ^ h % 256)) j ≡ put (in_byte s) h false j) same
      (ap (λ x. x == 1) (bit_at_clear_same w8 s h below) ∙ sym (put_same (in_byte s) h false))
  | inr other ↦ ap (λ x. x == 1) (bit_at_clear_other w8 s h below k small (λ e. other (sym e))) ∙ sym (put_other (in_byte s) h k false other)
]

-- ---- a call takes names out one after another

-- of the names before n those that are called are out, and all others are as they were
pub record AreOutBelow (called : ℕ → Bool) (set left n : ℕ) : Type 0 where
  pub before : (h : ℕ) → h < n → in_byte left h ≡ without called (in_byte set) h
  pub rest : (h : ℕ) → n ≤ h → h < most_handlers → in_byte left h ≡ in_byte set h

module _ (called : ℕ → Bool) (set left n : ℕ) (inside : n < most_handlers) (out : AreOutBelow called set left n) where
  -- the next name is called
  pub out_next : called n ≡ true → AreOutBelow called set (bit_and left (255 - 1 * 2 ^ n % 256)) (n + 1)
  out_next is = record {
    before = λ h below. elim (cases_eq n h) [
      | inl same ↦
          subst (λ k. in_byte (bit_and left (255 - 1 * 2 ^ n % 256)) k ≡ without called (in_byte set) k) same
          (without_handler left n n inside inside ∙ (put_same (in_byte left) n false ∙ sym (without_called called (in_byte set) n is)))
      | inr other ↦
          without_handler left n h inside (omega (arith, inside, below)) ∙ (put_other (in_byte left) n h false other ∙ out.before h (omega (arith, below)))
    ];
    rest = λ h least small.
        let other : n ≢ h = λ e. omega arith in
        without_handler left n h inside small ∙ (put_other (in_byte left) n h false other ∙ out.rest h (omega (arith, least)) small);
  }

  -- the next name is not
  pub kept_next : called n ≡ false → AreOutBelow called set left (n + 1)
  kept_next is = record {
    before = λ h below. elim (cases_eq n h) [
      | inl same ↦
          subst (λ k. in_byte left k ≡ without called (in_byte set) k) same
          (out.rest n (omega arith) inside ∙ sym (without_other called (in_byte set) n is))
      | inr other ↦ out.before h (omega (arith, below, other))
    ];
    rest = λ h least small. out.rest h (omega (arith, least)) small;
  }

pub truths_at : (s h : ℕ) → h < most_handlers → get_or (truths s) h true ≡ in_byte s h
truths_at s (suc (suc (suc (suc (suc (suc (suc (suc n)))))))) below = absurd (omega arith)
truths_at s _ below = refl

-- ---- how many handlers a set has

total_less : (n : ℕ) (f g : ℕ → ℕ) → ((i : ℕ) → g i ≤ f i) → total_below n g ≤ total_below n f
unfolding total_below
total_less zero f g each = omega arith
total_less (suc n) f g each = omega (arith, each n, total_less n f g each)

total_same : (n : ℕ) (f g : ℕ → ℕ) → ((i : ℕ) → g i ≤ f i) → total_below n f ≤ total_below n g → (i : ℕ) → i < n → g i ≡ f i
unfolding total_below
total_same zero f g each more i below = absurd (omega arith)
total_same (suc n) f g each more i below = elim (cases_eq i n) [
  | inl last ↦ rw last (omega (arith, each n, total_less n f g each))
  | inr before ↦ total_same n f g each (omega (arith, each n)) i (omega arith)
]

total_most : (n : ℕ) (f : ℕ → ℕ) → ((i : ℕ) → f i < 2) → total_below n f ≤ n
unfolding total_below
total_most zero f each = omega arith
total_most (suc n) f each = omega (arith, each n, total_most n f each)

total_none : (n : ℕ) (f : ℕ → ℕ) → ((i : ℕ) → f i ≡ 0) → total_below n f ≡ 0
unfolding total_below
total_none zero f each = refl
total_none (suc n) f each = omega (arith, each n, total_none n f each)

min_less : (x y : ℕ) → min x y ≤ x
min_less x y = omega arith

bit_less : (a b i : ℕ) → bit_at (bit_and a b) i ≤ bit_at a i
bit_less a b i = rw (bit_at_and a b i) (min_less (bit_at a i) (bit_at b i))

pub at_most_8 : (s : ℕ) → size s ≤ most_handlers
at_most_8 s = total_most 8 (bit_at s) (bit_at-lt s)

pub none_in_0 : size 0 ≡ 0
none_in_0 = total_none 8 (bit_at 0) bit_at-zero

pub both_less : (a b : ℕ) → size (bit_and a b) ≤ size a
both_less a b = total_less most_handlers (bit_at a) (bit_at (bit_and a b)) (bit_less a b)

-- a set that shrinks has fewer
pub shrunk_less : (a b : ℕ) → a < 2 ^ 8 → bit_and a b < 2 ^ 8 → bit_and a b ≢ a → size (bit_and a b) < size a
shrunk_less a b small both shrunk = elim (cases_lt (size (bit_and a b)) (size a)) [
  | inl fewer ↦ fewer
  | inr as_many ↦
      absurd (shrunk (same_from_bits_below 8 (bit_and a b) a both small (total_same 8 (bit_at a) (bit_at (bit_and a b)) (bit_less a b) as_many)))
]
