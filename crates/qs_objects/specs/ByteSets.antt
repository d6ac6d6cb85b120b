-- Sets of numbers below 8, as bytes: of objects, of handlers, of clients.
use Rattle.std.specs.Prelude.{ℕ, ◌==◌, Bool}
use Rattle.std.specs.Int.{bit_at}

-- whether a number is in a set: its bit of the byte
abbrev pub in_byte : ℕ → ℕ → Bool
in_byte set n = bit_at set n == 1
