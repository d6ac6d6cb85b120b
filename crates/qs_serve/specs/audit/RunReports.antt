-- The report of a run in the style that a line asks for.
use Rattle.std.specs.Prelude.{ℕ, List, Bool, if◌then◌else◌, Option, Some, None}
use Rattle.qs_program.specs.audit.Program.{ProgramShape}
use Rattle.qs_program.specs.audit.Values.{Locals}
use Rattle.qs_meaning.specs.audit.Configurations.{configuration_after}
use Rattle.qs_played.specs.audit.Played.{Played}
use Rattle.qs_report.specs.audit.Report.{styled_run_text}
use Rattle.qs_json.specs.audit.RunJson.{run_json}
use Rattle.qs_svg.specs.audit.RunSvg.{run_svg}
use Rattle.qs_line.specs.declared.line.ReportFormat.{ReportFormat}
use Rattle.qs_line.specs.declared.line.ReportFormat.TheVariants as report_format
use Rattle.qs_line.specs.declared.line.ReportStyle.{ReportStyle}

-- the clients' variables at the end of a run that is finished: those after its blocks, one after another in its order
abbrev pub locals_at_end : ProgramShape → Played → Option (ℕ → Locals)
locals_at_end p run = if run.finished then Some (configuration_after p run.order).locals else None

-- the report of what was played, as text or as JSON, with the counts of synchronisations where they are asked for, or
-- as a picture; a text marks what was refused where that is asked for, and JSON and pictures always mark it
abbrev pub report_in : ReportFormat → (refusals counts : Bool) → ProgramShape → Played → List ℕ
report_in report_format.Text refusals counts p played = styled_run_text refusals counts p played
report_in report_format.Json refusals counts p played = run_json counts p played
report_in report_format.Svg refusals counts p played = run_svg p played (locals_at_end p played)

abbrev pub report_by : ReportStyle → ProgramShape → Played → List ℕ
report_by style p played = report_in style.format style.refusals style.counts p played
