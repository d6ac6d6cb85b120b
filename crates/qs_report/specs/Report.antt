-- Beside what the headline reaches (`audit/Report.antt`): what else contracts and proofs use.
use Rattle.std.specs.Prelude.{ℕ, List, ◌++◌, codes, length, sum_by, Bool, true, false}
use Rattle.qs_program.specs.audit.Program.{ClientShape, ProgramShape, whole_load, whole_weight}
use Rattle.qs_played.specs.audit.Played.{Played}
use Rattle.qs_text.specs.audit.Texts.{count_line}
use Rattle.qs_report.specs.audit.Report.{styled_run_text}

-- without what became of the requests
abbrev pub run_text : (counts : Bool) → ProgramShape → Played → List ℕ
run_text counts p run = styled_run_text false counts p run

-- and without the counts
abbrev pub report_text : ProgramShape → Played → List ℕ
report_text p run = run_text false p run

-- with them
abbrev pub counted_report_text : ProgramShape → Played → List ℕ
counted_report_text p run = run_text true p run

-- five lines of counts
abbrev pub counts_text : ProgramShape → List ℕ
counts_text p =
    count_line (codes "objects") (length p.objects)
    ++ count_line (codes "clients") (length p.clients)
    ++ count_line (codes "blocks") (sum_by (λ (c : ClientShape). length c.blocks) p.clients)
    ++ count_line (codes "load") (whole_load p)
    ++ count_line (codes "weight") (whole_weight p)
