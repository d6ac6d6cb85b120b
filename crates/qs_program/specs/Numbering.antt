-- Beside what the headline reaches (`audit/Numbering.antt`): what else contracts and proofs use.
use Rattle.std.specs.Prelude.{ℕ, List}
use Rattle.std.specs.List.{position_or_len}
use Rattle.qs_program.specs.audit.Numbering.{Name, same_name}

-- the number of a name: its place, or the next number
abbrev pub number_of : List Name → Name → ℕ
number_of names n = position_or_len (same_name n) names
