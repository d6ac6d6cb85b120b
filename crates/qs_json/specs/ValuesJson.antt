-- Which values a sum has at the ends of a program's orders: one object on a line.
use Rattle.std.specs.Prelude.{◌≡◌, ◌≤◌, ℕ, List, ◌++◌, codes, decimal, slice_index_or, pos}
use Rattle.std.specs.Fmt.{signed_decimal}
use Rattle.qs_program.specs.audit.Program.{ProgramShape}
use Rattle.qs_serial.specs.audit.NamedOrders.{order_of}
use Rattle.qs_conditions.specs.declared.condition.Summand.{Summand}
use Rattle.qs_outcomes.specs.Outcomes.{AreOutcomesAfter, OutcomesShape}
use Rattle.qs_questions.specs.SumValues.{AreValuesOf}
use Rattle.qs_questions.specs.declared.sums.SumValue.{SumValue}
use Rattle.qs_standings.specs.Standings.{StandingShape}
use Rattle.qs_report.specs.OutcomesText.{no_standing}
use Rattle.qs_json.specs.audit.Pieces.{array, field, first_field}
use Rattle.qs_json.specs.OutcomesJson.{next_client_json}

-- a value, at how many ends the sum has it, and the least order that comes to one of these
abbrev pub value_json : List StandingShape → SumValue → List ℕ
value_json ends x =
    first_field (codes "value") (signed_decimal x.value) ++ field (codes "ends") (decimal x.ends)
    ++ field (codes "order") (array next_client_json (slice_index_or ends x.first no_standing).order) ++ codes "}"

-- what is read past the end of a list of values
abbrev pub no_value : SumValue
no_value = record { value = pos 0; ends = 0; first = 0 }

-- each value, and how many configurations there are
abbrev pub json_of_values : List SumValue → OutcomesShape → List ℕ
json_of_values values all =
    first_field (codes "values") (array (value_json all.found) values)
    ++ field (codes "configurations") (decimal all.configurations) ++ codes "}\n"

-- There is a list of all outcomes of the program after the blocks that a list of clients names, with no more
-- configurations than the limit, and this is the text of the values that the sum has at these ends.
unfoldable pub IsValuesJson : ProgramShape → (sum : List Summand) → (limit : ℕ) → (front : List ℕ) → List ℕ → Type 0
IsValuesJson p sum limit front text =
    (all : OutcomesShape) × (values : List SumValue) × AreOutcomesAfter p (order_of front) all
    × (all.configurations ≤ limit) × AreValuesOf p sum all.found values × (text ≡ json_of_values values all)
