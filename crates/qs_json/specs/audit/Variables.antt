-- Clients with their variables.
use Rattle.std.specs.Prelude.{ℕ, pos, List, [], ◌++◌, codes, length, slice_index_or}
use Rattle.std.specs.Fmt.{signed_decimal}
use Rattle.qs_program.specs.audit.Numbering.{Name}
use Rattle.qs_program.specs.audit.Program.{ProgramShape, client_at}
use Rattle.qs_program.specs.audit.Values.{Locals}
use Rattle.qs_json.specs.audit.Pieces.{array_up_to, field, first_field, quoted}

-- a variable with its value, by its number
abbrev pub variable_json : List Name → Locals → ℕ → List ℕ
variable_json names l x =
    first_field (codes "variable") (quoted (slice_index_or names x []))
    ++ field (codes "value") (signed_decimal (slice_index_or l x (pos 0))) ++ codes "}"

-- the variables of a client, in the order of their first appearance
abbrev pub variables_json : List Name → Locals → List ℕ
variables_json names l = field (codes "variables") (array_up_to (length names) (variable_json names l))

-- a client with its variables
abbrev pub client_with : ProgramShape → (ℕ → Locals) → ℕ → List ℕ
client_with p locals c =
    first_field (codes "client") (quoted (client_at p c).name)
    ++ variables_json (client_at p c).variables (locals c) ++ codes "}"
