-- What texts of a program say of a client's variables.
use Rattle.std.specs.Prelude.{ℕ, pos, List, [], ◌++◌, codes, length, slice_index_or}
use Rattle.std.specs.Fmt.{signed_decimal}
use Rattle.qs_program.specs.audit.Numbering.{Name}
use Rattle.qs_program.specs.audit.Values.{Locals}
use Rattle.qs_text.specs.audit.Texts.{texts_up_to}

-- a variable with its value, by its number
abbrev pub variable_text : List Name → Locals → ℕ → List ℕ
variable_text names l x =
    codes " " ++ slice_index_or names x [] ++ codes " " ++ signed_decimal (slice_index_or l x (pos 0))

-- all variables of a client, in the order of their first appearance
abbrev pub variables_text : List Name → Locals → List ℕ
variables_text names l = texts_up_to (length names) (variable_text names l)
