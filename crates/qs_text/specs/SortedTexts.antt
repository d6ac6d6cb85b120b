-- Texts one after another, in the order of their bytes.
use Rattle.std.specs.Prelude.{◌≡◌, ℕ, List, flat_map}
use Rattle.std.specs.Cmp.Lexicographic.{slice_cmp}
use Rattle.std.specs.List.Sorted.{IsPermutation, IsSorted}
use Rattle.std.specs.Ordering.{nat_cmp}

-- texts one after another
abbrev pub joined : List (List ℕ) → List ℕ
joined texts = flat_map (λ text. text) texts

-- the texts of a list, none before one that is less by its bytes
abbrev pub AreInOrder : (texts sorted : List (List ℕ)) → Type 0
AreInOrder texts sorted = IsPermutation texts sorted × IsSorted (slice_cmp nat_cmp) sorted

-- all texts of a list, one after another in this order
abbrev pub IsInOrder : List (List ℕ) → List ℕ → Type 0
IsInOrder texts text = (sorted : List (List ℕ)) × AreInOrder texts sorted × (text ≡ joined sorted)

-- there is one such text of a list, and one of each list that has the same texts in another order
abbrev pub OrdersAreUnique : Type 0
OrdersAreUnique =
    (texts others : List (List ℕ)) (one other : List ℕ) → IsPermutation texts others → IsInOrder texts one
    → IsInOrder others other → one ≡ other
