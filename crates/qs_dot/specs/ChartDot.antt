-- The configurations of a program as a drawing in the DOT language, as bytes.
use Rattle.std.specs.Prelude.{◌≡◌, ◌≤◌, ℕ, Bool, true, false, ◌&&◌, not, List, [], ◌++◌, codes, decimal, flat_map, length, if◌then◌else◌, nat_eq, nat_lt, slice_index_or}
use Rattle.std.specs.List.{list_any}
use Rattle.qs_program.specs.audit.Program.{ProgramShape, client_at}
use Rattle.qs_serial.specs.audit.NamedOrders.{order_of}
use Rattle.qs_meaning.specs.audit.Serial.{IsLegal}
use Rattle.qs_dot.specs.declared.chart.Lead.{Lead}
use Rattle.qs_dot.specs.Charts.{AreLeads, ArePlaces, ChartShape}
use Rattle.qs_dot.specs.EndText.{end_text, number_in}
use Rattle.qs_dot.specs.ShortText.{short_clients, short_objects, told_by_variables}
use Rattle.qs_outcomes.specs.Outcomes.{AreOutcomesAfter, OutcomesShape}
use Rattle.qs_standings.specs.Standings.{StandingShape}
use Rattle.qs_text.specs.audit.Texts.{texts_up_to}

-- whether a block leads on from a place
abbrev pub leads_on : List Lead → ℕ → Bool
leads_on leads i = list_any (λ (l : Lead). nat_eq l.from i) leads

-- a second outline, for an outcome: no block leads on from there
abbrev pub mark_text : Bool → List ℕ
mark_text on = if on then [] else codes ", peripheries=2"

-- the number of a place; or, where it is an outcome, the number of that in the list of all outcomes
abbrev pub number_text : ProgramShape → (found : List StandingShape) → (on : Bool) → ℕ → StandingShape → List ℕ
number_text p found true i s = decimal i
number_text p found false i s = codes "outcome " ++ decimal (number_in p (end_text p s) found)

-- what a place says: the objects, and the clients' variables, where it is an outcome or they alone tell it from another
-- place
abbrev pub held_text : ProgramShape → (places : List StandingShape) → (on : Bool) → StandingShape → List ℕ
held_text p places on s =
    short_objects p s ++ (if on && not (told_by_variables p places s) then [] else short_clients p s)

-- a place: its label, and how it is outlined
abbrev pub place_text : ProgramShape → (found places : List StandingShape) → (on : Bool) → ℕ → StandingShape → List ℕ
place_text p found places on i s =
    codes "  n" ++ decimal i ++ codes " [label=\"" ++ number_text p found on i s ++ held_text p places on s
    ++ codes "\"" ++ mark_text on ++ codes "];\n"

-- what stands past the last place
abbrev pub no_place : StandingShape
no_place = record { order = []; begun = []; locals = []; states = [] }

-- the place of a number
abbrev pub place_line : ProgramShape → (found : List StandingShape) → ChartShape → ℕ → List ℕ
place_line p found chart i =
    place_text p found chart.places (leads_on chart.leads i) i (slice_index_or chart.places i no_place)

-- a block's name stands on a ground of its own, between these two. They and the colours do not unfold by themselves,
-- so that a search for a proof does not go through their bytes
unfoldable pub name_start : List ℕ
name_start = codes " [label=<<table border=\"0\" bgcolor=\"#dfe5ec\"><tr><td>"

unfoldable pub name_end : List ℕ
name_end = codes "</td></tr></table>>];\n"

-- the number of the block that leads on, among those of its client
abbrev pub block_of : List StandingShape → Lead → ℕ
block_of places l = slice_index_or (slice_index_or places l.from no_place).begun l.client 0

-- an edge with the name of the block that leads along it: that of its client, and its number
abbrev pub lead_line : ProgramShape → List StandingShape → Lead → List ℕ
lead_line p places l =
    codes "  n" ++ decimal l.from ++ codes " -> n" ++ decimal l.to ++ name_start ++ (client_at p l.client).name
    ++ codes " " ++ decimal (block_of places l) ++ name_end

-- Lines that can be seen on a light page and on a dark one, and no ground but that of the texts. No colour has a
-- contrast of 4.5 to 1 both to white and to #16181c: that of #747c88, which the lines have, is 4.2 to each. So the
-- texts stand on a light ground of their own, to which they have 14 to 1.
unfoldable pub colours_text : List ℕ
colours_text =
    codes "  graph [bgcolor=transparent];\n  node [shape=box, style=filled, fillcolor=\"#dfe5ec\", color=\"#747c88\", fontcolor=\"#16181c\"];\n  edge [color=\"#747c88\", fontcolor=\"#16181c\"];\n"

-- more places than this are drawn close together
abbrev pub most_roomy : ℕ
most_roomy = 12

abbrev pub close_text : (places : ℕ) → List ℕ
close_text places =
    if nat_lt most_roomy places
    then codes "  graph [nodesep=0.1, ranksep=0.3];\n  node [fontsize=11, margin=\"0.08,0.04\"];\n  edge [fontsize=10];\n"
    else []

-- and more than this by rank from left to right, and printed by a browser on one page
abbrev pub most_wide : ℕ
most_wide = 50

abbrev pub layout_text : (places : ℕ) → List ℕ
layout_text places =
    if nat_lt most_wide places
    then codes "  graph [rankdir=LR];\n  graph [stylesheet=\"data:text/css,@media%20print{svg{width:100vw;height:100vh}}\"];\n"
    else []

-- how it is drawn, all places, and all edges
abbrev pub chart_text : ProgramShape → (found : List StandingShape) → ChartShape → List ℕ
chart_text p found chart =
    codes "digraph outcomes {\n" ++ colours_text ++ close_text (length chart.places) ++ layout_text (length chart.places)
    ++ texts_up_to (length chart.places) (place_line p found chart) ++ flat_map (lead_line p chart.places) chart.leads
    ++ codes "}\n"

-- There is a chart of the program after the blocks that a list of clients names, of at most so many places, and a list
-- of all outcomes after them, and this is the chart's text with the list's numbers.
pub record IsChartDot (p : ProgramShape) (limit : ℕ) (front : List ℕ) (text : List ℕ) : Type 0 where
  pub chart : ChartShape
  pub all : OutcomesShape
  pub legal : IsLegal p (order_of front)
  pub places : ArePlaces p (order_of front) chart.places
  pub leads : AreLeads p chart.places chart.leads
  pub within : length chart.places ≤ limit
  pub outcomes : AreOutcomesAfter p (order_of front) all
  pub drawn : text ≡ chart_text p all.found chart
