-- Which values a sum has at the ends of a program's orders, as bytes.
use Rattle.std.specs.Prelude.{◌≡◌, ◌≤◌, ℕ, List, ◌++◌, codes, decimal, flat_map, length, slice_index_or}
use Rattle.std.specs.Fmt.{signed_decimal}
use Rattle.qs_program.specs.audit.Program.{ProgramShape}
use Rattle.qs_serial.specs.audit.NamedOrders.{order_of}
use Rattle.qs_conditions.specs.declared.condition.Summand.{Summand}
use Rattle.qs_outcomes.specs.Outcomes.{AreOutcomesAfter, OutcomesShape}
use Rattle.qs_questions.specs.SumValues.{AreValuesOf}
use Rattle.qs_questions.specs.declared.sums.SumValue.{SumValue}
use Rattle.qs_standings.specs.Standings.{StandingShape}
use Rattle.qs_text.specs.audit.Texts.{count_line}
use Rattle.qs_report.specs.OutcomesText.{clients_text, no_standing}

-- a value, at how many ends the sum has it, and the least order that comes to one of these
abbrev pub value_line : List StandingShape → SumValue → List ℕ
value_line ends x =
    codes "value " ++ signed_decimal x.value ++ codes " ends " ++ decimal x.ends ++ codes " order "
    ++ clients_text (slice_index_or ends x.first no_standing).order ++ codes "\n"

-- how many values there are, each of them, and how many configurations
abbrev pub text_of_values : List SumValue → OutcomesShape → List ℕ
text_of_values values all =
    count_line (codes "values") (length values) ++ flat_map (value_line all.found) values
    ++ count_line (codes "configurations") all.configurations

-- There is a list of all outcomes of the program after the blocks that a list of clients names, with no more
-- configurations than the limit, and this is the text of the values that the sum has at these ends.
unfoldable pub IsValuesText : ProgramShape → (sum : List Summand) → (limit : ℕ) → (front : List ℕ) → List ℕ → Type 0
IsValuesText p sum limit front text =
    (all : OutcomesShape) × (values : List SumValue) × AreOutcomesAfter p (order_of front) all
    × (all.configurations ≤ limit) × AreValuesOf p sum all.found values × (text ≡ text_of_values values all)
