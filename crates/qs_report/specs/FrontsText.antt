-- Where a program can stand after so many blocks, as bytes.
use Rattle.std.specs.Prelude.{ℕ, ◌+◌, List, ◌++◌, codes, length, slice_index_or}
use Rattle.qs_program.specs.audit.Program.{ProgramShape}
use Rattle.qs_standings.specs.Standings.{StandingShape}
use Rattle.qs_text.specs.audit.Texts.{count_line, texts_up_to}
use Rattle.qs_report.specs.OutcomesText.{client_line, no_standing, numbered, object_line}

-- a front: its number and its order, the lines of the objects, and those of the clients
abbrev pub front_text : ProgramShape → ℕ → StandingShape → List ℕ
front_text p n s =
    numbered (codes "front ") n s.order ++ codes "\n" ++ texts_up_to (length p.objects) (object_line p s)
    ++ texts_up_to (length p.clients) (client_line p s)

-- the front at a place of a list
abbrev pub front_text_at : ProgramShape → List StandingShape → ℕ → List ℕ
front_text_at p found i = front_text p (i + 1) (slice_index_or found i no_standing)

-- how many fronts there are, and each of them
abbrev pub fronts_text : ProgramShape → List StandingShape → List ℕ
fronts_text p found =
    count_line (codes "fronts") (length found) ++ texts_up_to (length found) (front_text_at p found)
