-- Sets of handlers as bytes.
use Rattle.std.specs.Prelude.{ℕ, zero, suc, ◌+◌, Bool, List, [], ◌∷◌, map}
use Rattle.std.specs.Int.{bit_at}
use Rattle.qs_objects.specs.ByteSets.{in_byte}
use Rattle.qs_program.specs.audit.Limits.{most_handlers}

-- the set of all handlers
abbrev pub every_handler : ℕ
every_handler = 255

-- for each handler whether a set has it
abbrev pub truths : ℕ → List Bool
truths set =
    in_byte set 0 ∷ in_byte set 1 ∷ in_byte set 2 ∷ in_byte set 3 ∷ in_byte set 4 ∷ in_byte set 5 ∷ in_byte set 6
    ∷ in_byte set 7 ∷ []

abbrev pub truths_of : List ℕ → List (List Bool)
truths_of sets = map truths sets

unfoldable pub total_below : ℕ → (ℕ → ℕ) → ℕ
total_below zero f = 0
total_below (suc n) f = f n + total_below n f

-- how many handlers a set has
abbrev pub size : ℕ → ℕ
size set = total_below most_handlers (bit_at set)
