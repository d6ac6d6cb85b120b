-- Of all changes of a configuration one is arranged: it stands for them all.
use Rattle.std.specs.Prelude.{◌≡◌, ◌<◌, ℕ, List, ◌∷◌, ℤ, pos}
use Rattle.std.specs.Ordering.{int_cmp}
use Rattle.std.specs.declared.cmp.Ordering.{Ordering}
use Rattle.std.specs.declared.cmp.Ordering.TheVariants.{Less}
use Rattle.std.specs.Cmp.Lexicographic.{slice_cmp}
use Rattle.qs_meaning.specs.audit.Configurations.{Configuration}
use Rattle.qs_alike.specs.Changes.{Change, Classes, IsChange, changed}

-- what changes places with a client: how many blocks it has begun, and its variables
abbrev pub place_of : Configuration → ℕ → List ℤ
place_of g c = pos (g.begun c) ∷ g.locals c

-- two places, by the first number in which they differ
abbrev pub compared : Configuration → ℕ → ℕ → Ordering
compared g c d = slice_cmp int_cmp (place_of g c) (place_of g d)

-- in each class the places stand in order
abbrev pub IsArranged : Classes → Configuration → Type 0
IsArranged k g = (c d : ℕ) → c < d → k c ≡ k d → compared g d c ≡ Less → ⊥

-- in each class the places before a number stand in order, and before all from there on
abbrev pub IsArrangedBelow : Classes → Configuration → ℕ → Type 0
IsArrangedBelow k g n = (c d : ℕ) → c < n → c < d → k c ≡ k d → compared g d c ≡ Less → ⊥

-- Of two arranged configurations neither is a change of the other, unless they are the same.
abbrev pub ArrangedOnce : Type 0
ArrangedOnce =
    (k : Classes) (x : Change) → IsChange k x → (g : Configuration) → IsArranged k g → IsArranged k (changed x g)
    → changed x g ≡ g
