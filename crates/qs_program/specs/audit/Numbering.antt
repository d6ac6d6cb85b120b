-- Names by number, in the order of first appearance.
use Rattle.std.specs.Prelude.{ℕ, Bool, ◌==◌, if◌then◌else◌, unwrap_or, List, [], ◌∷◌, ◌++◌}
use Rattle.std.specs.Cmp.Lexicographic.{pointwise}
use Rattle.std.specs.List.{list_any, position}

abbrev pub Name : Type 0
Name = List ℕ

abbrev pub same_name : Name → Name → Bool
same_name = pointwise ◌==◌

abbrev pub is_among : List Name → Name → Bool
is_among names n = list_any (same_name n) names

-- the names with one more, if it is not among them
abbrev pub with_name : List Name → Name → List Name
with_name names n = if list_any (same_name n) names then names else names ++ n ∷ []

-- the number of a name that is among them, and 0 of any other
abbrev pub found_at : List Name → Name → ℕ
found_at names n = unwrap_or (position (same_name n) names) 0
