-- The ends that a program can come to, each once, as bytes: neither orders nor numbers are told, and the order is that
-- of the texts, so two programs that come to the same ends have the same text.
use Rattle.std.specs.Prelude.{◌≡◌, ◌≤◌, ℕ, List, ◌++◌, codes, length, map}
use Rattle.std.specs.List.{AllByRecursion}
use Rattle.qs_objects.specs.declared.held.Ticket.{Ticket}
use Rattle.qs_program.specs.audit.Program.{ProgramShape}
use Rattle.qs_program.specs.Sound.{IsSound}
use Rattle.qs_serial.specs.audit.NamedOrders.{order_of}
use Rattle.qs_outcomes.specs.Outcomes.{AreOutcomesAfter, IsListedAfter, OutcomesShape, outcome_at}
use Rattle.qs_standings.specs.Standings.{StandingShape}
use Rattle.qs_text.specs.SortedTexts.{IsInOrder}
use Rattle.qs_text.specs.TellApart.{IsEndOfWords}
use Rattle.qs_text.specs.audit.Texts.{texts_up_to}
use Rattle.qs_report.specs.OutcomesText.{client_line, object_line}

-- an end: a line that begins it, the objects and the clients with their variables
abbrev pub end_text : ProgramShape → StandingShape → List ℕ
end_text p s =
    codes "end\n" ++ texts_up_to (length p.objects) (object_line p s)
    ++ texts_up_to (length p.clients) (client_line p s)

abbrev pub end_texts : ProgramShape → List StandingShape → List (List ℕ)
end_texts p found = map (end_text p) found

-- There is a list of all outcomes of the program after the blocks that a list of clients names, found over no more
-- configurations than the limit, whose ends have this text; and each of them is of numbers of 64 bits, so no two of
-- them have one text (`EndsTellApart`).
unfoldable pub IsEndsText : ProgramShape → (limit : ℕ) → (front : List ℕ) → List ℕ → Type 0
IsEndsText p limit front text =
    (all : OutcomesShape) × AreOutcomesAfter p (order_of front) all × (all.configurations ≤ limit)
    × AllByRecursion (IsEndOfWords p) all.found × IsInOrder (end_texts p all.found) text

-- a program has one such text
abbrev pub EndsTextsAreUnique : Type 0
EndsTextsAreUnique =
    (p : ProgramShape) (limit bound : ℕ) (front one other : List ℕ) → IsEndsText p limit front one
    → IsEndsText p bound front other → one ≡ other

-- Of one checked program, two ends of numbers of 64 bits that have one text are the same outcome, also where they were
-- found after different fronts.
abbrev pub EndsTellApart : Type 0
EndsTellApart =
    (p : ProgramShape) → IsSound p → (front other : List Ticket) (s t : StandingShape) → IsListedAfter p front s
    → IsListedAfter p other t → IsEndOfWords p s → IsEndOfWords p t → end_text p s ≡ end_text p t
    → outcome_at s ≡ outcome_at t
