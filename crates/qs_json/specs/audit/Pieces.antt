-- What texts for machines are made of: strings, truths, and arrays.
use Rattle.std.specs.Prelude.{ℕ, List, ◌++◌, [], codes, Bool, if◌then◌else◌, nat_eq}
use Rattle.std.specs.List.{join_by}
use Rattle.qs_text.specs.audit.Texts.{texts_up_to}

-- A name as a string. The names of a script are lower-case letters, digits and `_` alone, and so are all other words
-- that stand in strings here, but for spaces; so nothing in a string has to be escaped.
abbrev pub quoted : List ℕ → List ℕ
quoted name = codes "\"" ++ name ++ codes "\""

abbrev pub truth : Bool → List ℕ
truth b = if b then codes "true" else codes "false"

-- the first field of an object, and a further one
abbrev pub first_field : (name value : List ℕ) → List ℕ
first_field name value = codes "{\"" ++ name ++ codes "\":" ++ value

abbrev pub field : (name value : List ℕ) → List ℕ
field name value = codes ",\"" ++ name ++ codes "\":" ++ value

-- what stands before the element at a place of an array
abbrev pub comma_at : ℕ → List ℕ
comma_at i = if nat_eq i 0 then [] else codes ","

-- the text at a place, as an element of an array
abbrev pub element : (ℕ → List ℕ) → ℕ → List ℕ
element text i = comma_at i ++ text i

-- the texts of the places from 0 up to n, as an array
abbrev pub array_up_to : ℕ → (ℕ → List ℕ) → List ℕ
array_up_to n text = codes "[" ++ texts_up_to n (element text) ++ codes "]"

-- the texts of a list, as an array
abbrev pub array : {X : Type 0} → (X → List ℕ) → List X → List ℕ
array text xs = codes "[" ++ join_by text (codes ",") xs ++ codes "]"
