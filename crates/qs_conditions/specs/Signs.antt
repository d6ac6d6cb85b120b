-- The signs of a condition's text, or its first fault.
use Rattle.std.specs.Prelude.{ℕ, zero, suc, ◌-◌, nat_lt, nat_eq, if◌then◌else◌, List, [], ◌∷◌, take, Option, Some, None, Result, Ok, Err}
use Rattle.qs_script.specs.audit.tokens.Limits.{longest_name, most_digits}
use Rattle.qs_script.specs.audit.tokens.Tokens.{is_letter, is_digit, is_space, is_name_byte, at, value_of}
use Rattle.qs_script.specs.tokens.Cutting.{run_of}
use Rattle.qs_script.specs.declared.tree.tree.Relation.TheVariants as r
use Rattle.qs_conditions.specs.declared.signs.Sign.{Sign}
use Rattle.qs_conditions.specs.declared.signs.Sign.TheVariants as s
use Rattle.qs_conditions.specs.declared.signs.Placed.{Placed}
use Rattle.qs_conditions.specs.declared.fault.ConditionFault.{ConditionFault}
use Rattle.qs_conditions.specs.declared.fault.ConditionFault.TheVariants as f

-- the signs of two bytes: the first byte, the second, and the sign
abbrev pub pairs : List (ℕ × (ℕ × Sign))
pairs =
    (61, (61, s.Relation r.Equal)) ∷ (33, (61, s.Relation r.Unequal)) ∷ (60, (61, s.Relation r.AtMost))
    ∷ (62, (61, s.Relation r.AtLeast)) ∷ (38, (38, s.And)) ∷ (124, (124, s.Or)) ∷ []

-- the signs of one byte
abbrev pub singles : List (ℕ × Sign)
singles =
    (46, s.Dot) ∷ (40, s.Open) ∷ (41, s.Close) ∷ (44, s.Comma) ∷ (43, s.Plus) ∷ (45, s.Minus)
    ∷ (60, s.Relation r.Less) ∷ (62, s.Relation r.Greater) ∷ (33, s.Not) ∷ []

-- the sign that a first byte makes with the byte after it: the second byte that it takes, and the sign
abbrev pub pair_of : Option (ℕ × Sign) → List ℕ → Option Sign
pair_of None bs = None
pair_of (Some p) [] = None
pair_of (Some p) (b ∷ bs) = if nat_eq b p.0 then Some p.1 else None

-- a name of n bytes
abbrev pub name_sign : ℕ → List ℕ → ℕ → Result (Sign × ℕ) ConditionFault
name_sign place text n = if nat_lt longest_name n then Err (f.Name place) else Ok (s.Name (take n text), n)

-- a number of n digits
abbrev pub number_sign : ℕ → List ℕ → ℕ → Result (Sign × ℕ) ConditionFault
number_sign place text n =
    if nat_lt most_digits n then Err (f.Number place) else Ok (s.Number (value_of (take n text)), n)

-- a sign of two bytes, where they make one, and else of one
abbrev pub byte_sign : ℕ → Option Sign → Option Sign → Result (Sign × ℕ) ConditionFault
byte_sign place (Some sign) single = Ok (sign, 2)
byte_sign place None (Some sign) = Ok (sign, 1)
byte_sign place None None = Err (f.Byte place)

-- the sign that begins with a byte, before others
abbrev pub byte_at : ℕ → ℕ → List ℕ → Result (Sign × ℕ) ConditionFault
byte_at place b bs = byte_sign place (pair_of (at b pairs) bs) (at b singles)

-- what stands at the front of a text, and how many bytes it has; it begins at that place, and with no space
abbrev pub sign_at : ℕ → List ℕ → Result (Sign × ℕ) ConditionFault
sign_at place [] = Err (f.Byte place)
sign_at place (b ∷ bs) =
    if is_letter b then name_sign place (b ∷ bs) (run_of is_name_byte (b ∷ bs)) else
    (if is_digit b then number_sign place (b ∷ bs) (run_of is_digit (b ∷ bs)) else
    byte_at place b bs)

-- a sign with its place
abbrev pub placed : ℕ → Sign → Placed
placed place sign = record { place = place; sign = sign }

abbrev pub before : Placed → Result (List Placed) ConditionFault → Result (List Placed) ConditionFault
before x (Ok xs) = Ok (x ∷ xs)
before x (Err e) = Err e

-- the sign at a place, and those that come after its bytes
abbrev pub with_sign : ℕ → Result (Sign × ℕ) ConditionFault → (ℕ → Result (List Placed) ConditionFault)
    → Result (List Placed) ConditionFault
with_sign place (Err e) next = Err e
with_sign place (Ok x) next = before (placed place x.0) (next (x.1 - 1))

-- the signs of the bytes from a place on, of which the first `skip` belong to a sign before them
abbrev pub signs_from : ℕ → ℕ → List ℕ → Result (List Placed) ConditionFault
signs_from place skip [] = Ok []
signs_from place (suc skip) (b ∷ bs) = signs_from (suc place) skip bs
signs_from place zero (b ∷ bs) =
    if is_space b then signs_from (suc place) 0 bs else
    with_sign place (sign_at place (b ∷ bs)) (λ more. signs_from (suc place) more bs)

-- the signs of a text
abbrev pub signs_of : List ℕ → Result (List Placed) ConditionFault
signs_of text = signs_from 0 0 text
