-- Beside what the headline reaches (`audit/RunLines.antt`): what else contracts and proofs use.
use Rattle.std.specs.Prelude.{◌≡◌, List, Some}
use Rattle.clap.specs.Words.{Text}
use Rattle.qs_line.specs.audit.Line.{Request, asks}
use Rattle.qs_line.specs.Line.{line_in}
use Rattle.qs_line.specs.declared.line.ReportStyle.{ReportStyle}
use Rattle.qs_line.specs.audit.RunLines.{style_of, run_in}

-- These are lines, and all those of runs.
abbrev pub RunsAreLines : Type 0
RunsAreLines = (words : List Text) (request : Request) → run_in words ≡ Some request → line_in words ≡ asks request

abbrev pub LinesOfRunsAreThese : Type 0
LinesOfRunsAreThese =
    (words : List Text) (request : Request) (style : ReportStyle) → line_in words ≡ asks request
    → style_of request ≡ Some style → run_in words ≡ Some request
