-- The lines that ask for a run, and no others: what the words `rules`, `play` and `run` ask for.
use Rattle.std.specs.Prelude.{List, [], codes, Option, Some, None, if◌then◌else◌, ◌&&◌, not}
use Rattle.std.specs.Str.{bytes_eq}
use Rattle.clap.specs.Faults.{fault_of}
use Rattle.clap.specs.Kinds.{Kinds}
use Rattle.clap.specs.Words.{Row, Text, subcommand_of}
use Rattle.qs_line.specs.audit.Apart.{has_apart}
use Rattle.qs_line.specs.audit.Command.{qs_app}
use Rattle.qs_line.specs.audit.Line.{Request, asks_language, has_times, play, play_at, rules, rules_at, run, single_run_at}
use Rattle.qs_line.specs.declared.line.ReportStyle.{ReportStyle}

-- in which style a run that is asked for is reported
abbrev pub style_of : Request → Option ReportStyle
style_of (rules style plan) = Some style
style_of (play style mode size plan) = Some style
style_of (run style mode size) = Some style
style_of _ = None

-- what a word asks for, with the entries that clap finds after it, where that is a run; many runs, whose ends are
-- counted, are none
abbrev pub run_of_word : Text → List Row → Option Request
run_of_word name rows =
    if bytes_eq name (codes "rules") then rules_at rows
    else if bytes_eq name (codes "play") then play_at rows
    else if bytes_eq name (codes "run") && not (has_times rows) then single_run_at rows else None

-- the same, where no two settings stand on the line that do not stand together
abbrev pub runs_at : Text → List Row → Option Request
runs_at name rows = if has_apart rows then None else run_of_word name rows

-- the same of the word that clap meets, where it takes the words
abbrev pub run_by : Kinds → Option (Text × List Row) → Option Request
run_by [] (Some entry) = runs_at entry.0 entry.1
run_by _ _ = None

-- the run that these words ask for, the program's name first
abbrev pub run_in : List Text → Option Request
run_in words = if asks_language words then None else run_by (fault_of qs_app words) (subcommand_of qs_app words)
