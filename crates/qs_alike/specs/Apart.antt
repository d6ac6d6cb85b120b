-- Classes in which each client of a set is alone: it is one that nobody changes places with.
use Rattle.std.specs.Prelude.{◌≡◌, ◌<◌, ◌≤◌, ◌↔◌, ℕ, Bool, true, false}
use Rattle.qs_alike.specs.Changes.{Classes}

-- Each of the set is in a class of its own. Two others are of one class exactly where they were before.
pub record AreSetApart (before : Classes) (apart : ℕ → Bool) (k : Classes) : Type 0 where
  pub alone : (c d : ℕ) → apart c ≡ true → k c ≡ k d → c ≡ d
  pub others : (c d : ℕ) → apart c ≡ false → apart d ≡ false → (k c ≡ k d) ↔ (before c ≡ before d)

-- a client's own number where it is in the set, and else that of the first one of its class that isn't
pub record IsClassApart (before : Classes) (apart : ℕ → Bool) (c n : ℕ) : Type 0 where
  pub within : n ≤ c
  pub alone : apart c ≡ true → n ≡ c
  pub outside : apart c ≡ false → apart n ≡ false
  pub alike : before n ≡ before c
  pub none : apart c ≡ false → (d : ℕ) → d < n → apart d ≡ false → before d ≡ before c → ⊥

-- up to a client, each has such a class, and past the list each number is in a class of its own
abbrev pub AreApartUpTo : Classes → (ℕ → Bool) → (to : ℕ) → Classes → Type 0
AreApartUpTo before apart to k = (c : ℕ) → (c < to → IsClassApart before apart c (k c)) × (8 ≤ c → k c ≡ c)
