-- What the room of a chunk owns, at values of the row R.
use Rattle.std.specs.Prelude.{ℕ, ◌+◌, ◌*◌, ◌^◌, List, [], ◌∷◌, length, Option, Some, None}
use Rattle.std.specs.Mem.{type_size}
use base.Fraction.{full_share}
use base.Fml.{Fml, ftrue, ffalse, fsep, flt, froom}
use mir.Syntax.{Ty, ty_array}
use mir.Raw.{raw}
use denote.RattleType.{RattleType}
use denote.Memory.{lone, part_at}
use denote.RawPtr.{Ptr, block_ptr, null_ptr}

-- a place, o bytes into the block b: a value, or room for one
abbrev pub place_owns : (R : RattleType) → ℕ → ℕ → Option R.Denot → Fml
place_owns R b o (Some value) = part_at R full_share value b o
place_owns R b o None = froom (raw (lone R.mir)) b o

-- places side by side
abbrev pub row_owns : (R : RattleType) → ℕ → ℕ → List (Option R.Denot) → Fml
row_owns R b o [] = ftrue
row_owns R b o (place ∷ places) = fsep (place_owns R b o place) (row_owns R b (o + type_size R) places)

-- places that take fewer than 2 ^ 63 bytes, and the right, the token's, to give their block back
abbrev pub room_owns : (R : RattleType) → (Ty → Ptr → Fml) → Ptr → List (Option R.Denot) → Fml
room_owns R token (block_ptr b o) places =
    fsep (flt (length places * type_size R) (2 ^ 63))
    (fsep (row_owns R b o places) (token (raw (ty_array (lone R.mir) (length places))) (block_ptr b o)))
room_owns R token null_ptr places = ffalse
