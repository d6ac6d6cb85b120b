-- The hash of a name: over its first and its last byte.
use Rattle.std.specs.Prelude.{ℕ, ◌+◌, ◌-◌, ◌*◌, ◌%◌, List, [], ◌∷◌, length, slice_index}
use Rattle.qs_program.specs.declared.hashing.NameHasher.{NameHasher}

abbrev pub initial : NameHasher
initial = record { state = 0 }

abbrev pub mixed : ℕ → ℕ → ℕ
mixed first last = (4 * first + last) % 256 * 16777216 + last

abbrev pub hash_of : List ℕ → ℕ
hash_of [] = 0
hash_of (x ∷ xs) = mixed x (slice_index (x ∷ xs) (length (x ∷ xs) - 1))
