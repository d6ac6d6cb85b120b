-- What a line asks for.
use Rattle.std.specs.Prelude.{ℕ, List, [], codes, Option, Some, None, ◌==◌, length, slice_index_or, Bool, true, false, if◌then◌else◌, ◌||◌, ◌&&◌, not, is_some, option_map, option_and_then, unwrap_or}
use Rattle.std.specs.Option.{option_map_or}
use Rattle.std.specs.Str.{bytes_eq}
use Rattle.std.specs.Str.Parse.{digits_value, without_leading_plus}
use Rattle.clap.specs.ValueTests.{is_unsigned_in}
use Rattle.clap.specs.Words.{Row, Text, first_of}
use Rattle.qs_played.specs.audit.Schedule.{most_rounds}
use Rattle.qs_syncset.specs.declared.mode.Mode.{Mode}
use Rattle.qs_syncset.specs.declared.mode.Mode.TheVariants.{Plain, Dynamic, Static, Both}
use Rattle.qs_line.specs.audit.Apart.{flag_at}
use Rattle.qs_line.specs.audit.Parts.{clients_in, list_in}
use Rattle.qs_line.specs.declared.parts.Part.{Part}
use Rattle.qs_line.specs.declared.question.Question.{Question}
use Rattle.qs_line.specs.declared.line.Format.{Format}
use Rattle.qs_line.specs.declared.line.GraphFormat.{GraphFormat}
use Rattle.qs_line.specs.declared.line.OutcomesFormat.{OutcomesFormat}
use Rattle.qs_line.specs.declared.line.ReportFormat.{ReportFormat}
use Rattle.qs_line.specs.declared.line.ReportFormat.TheVariants as report_format
use Rattle.qs_line.specs.declared.line.ReportStyle.{ReportStyle}

-- who goes when: all actors by a schedule, so many rounds after its picks; or clients in an order, one whole block
-- after another. Picks and orders are lists as they are written: whom they name is the script's.
pub data PlanShape : Type 0 where
  by_schedule : (rounds : ℕ) → (picks : List Part) → PlanShape
  by_order : (clients : List Part) → PlanShape

-- what is asked for: the counts; the graphs; a run by the plain rules; one in the optimised machine, in a mode and by
-- chunks of a size; how many synchronisations each mode sends for the blocks of an order; a run on threads, or so many
-- of them, whose ends are counted; after the blocks of some clients, how many configurations there can be; or, after
-- these and with so many configurations at most, whether conditions hold of all ends, of some or throughout and which
-- values sums have, or all outcomes, or their ends alone, by so many threads; or, after the blocks of each of some lists of clients, the
-- configurations after so many blocks more; or, with so many configurations at most, one of all outcomes that differ by
-- alike clients in each other's places. Each is asked for in a format, and of a run the counts of synchronisations and
-- what was refused may be asked for as well, and of a schedule a line for each step, and what lies where at its end.
pub data Request : Type 0 where
  check : Format → Request
  graph : GraphFormat → Request
  rules : ReportStyle → PlanShape → Request
  play : ReportStyle → Mode → (chunk : ℕ) → PlanShape → Request
  syncs : Format → PlanShape → Request
  run : ReportStyle → Mode → ℕ → Request
  tally : Format → Mode → (chunk : ℕ) → (times : ℕ) → Request
  ask : (questions : List Question) → Format → (limit threads : ℕ) → (front : List Part) → Request
  estimate : Format → (front : List Part) → Request
  fronts : Format → (blocks : ℕ) → (limit : ℕ) → (orders : List (List Part)) → Request
  alike : Format → (limit : ℕ) → Request
  outcomes : OutcomesFormat → (limit : ℕ) → (threads : ℕ) → (front : List Part) → Request

abbrev pub report_format_in : Text → Option ReportFormat
report_format_in text =
    if bytes_eq text (codes "text") then Some report_format.Text
    else if bytes_eq text (codes "json") then Some report_format.Json
    else if bytes_eq text (codes "svg") then Some report_format.Svg else None

abbrev pub mode_in : Text → Option Mode
mode_in text =
    if bytes_eq text (codes "none") then Some Plain
    else if bytes_eq text (codes "dynamic") then Some Dynamic
    else if bytes_eq text (codes "static") then Some Static
    else if bytes_eq text (codes "both") then Some Both else None

-- the number of a text of decimal digits, with a plus before them or none, where it is from `low` to `high`
abbrev pub number_in : ℕ → ℕ → Text → Option ℕ
number_in low high text =
    if is_unsigned_in low high text then Some (digits_value 10 (without_leading_plus text)) else None

abbrev pub report_format_at : List Row → Option ReportFormat
report_format_at rows = option_and_then report_format_in (first_of (codes "format") rows)

abbrev pub style_at : List Row → Option ReportStyle
style_at rows =
    option_map (λ how. record {
      counts = flag_at (codes "counts") rows;
      refusals = flag_at (codes "refusals") rows;
      format = how;
      steps = flag_at (codes "steps") rows;
      queues = flag_at (codes "queues") rows;
    }) (report_format_at rows)

abbrev pub mode_at : List Row → Option Mode
mode_at rows = option_and_then mode_in (first_of (codes "mode") rows)

abbrev pub chunk_at : List Row → Option ℕ
chunk_at rows = option_and_then (number_in 1 32) (first_of (codes "chunk") rows)

-- as many rounds as a schedule has at most where the line has no number of them
abbrev pub rounds_at : List Row → Option ℕ
rounds_at rows = unwrap_or (option_map (number_in 0 4294967295) (first_of (codes "rounds") rows)) (Some most_rounds)

-- a number of runs stands on the line
abbrev pub has_times : List Row → Bool
has_times rows = is_some (first_of (codes "times") rows)

-- no pick where the line has no list of them
abbrev pub picks_at : List Row → Option (List Part)
picks_at rows = unwrap_or (option_map list_in (first_of (codes "pick") rows)) (Some [])

abbrev pub schedule_at : List Row → Option PlanShape
schedule_at rows = option_and_then (λ rounds. option_map (by_schedule rounds) (picks_at rows)) (rounds_at rows)

-- by an order where the line has one, and else by a schedule
abbrev pub plan_at : List Row → Option PlanShape
plan_at rows =
    option_map_or (λ text. option_map by_order (clients_in text)) (first_of (codes "order") rows) (schedule_at rows)

-- steps and queues can be told beside a report, and not beside a picture
abbrev pub can_tell : ReportFormat → Bool
can_tell report_format.Text = true
can_tell report_format.Json = true
can_tell report_format.Svg = false

-- a plan of a report in a style; none where its steps or its queues are asked for and can't be told
abbrev pub styled_plan : ReportStyle → PlanShape → Option PlanShape
styled_plan style plan = if (style.steps || style.queues) && not (can_tell style.format) then None else Some plan

abbrev pub styled_plan_at : ReportStyle → List Row → Option PlanShape
styled_plan_at style rows = option_and_then (styled_plan style) (plan_at rows)

abbrev pub rules_at : List Row → Option Request
rules_at rows = option_and_then (λ style. option_map (rules style) (styled_plan_at style rows)) (style_at rows)

abbrev pub play_at : List Row → Option Request
play_at rows =
    option_and_then (λ style. option_and_then (λ mode. option_and_then
    (λ chunk. option_map (play style mode chunk) (styled_plan_at style rows))
    (chunk_at rows)) (mode_at rows)) (style_at rows)

abbrev pub single_run_at : List Row → Option Request
single_run_at rows =
    option_and_then (λ style. option_and_then (λ mode. option_map (run style mode) (chunk_at rows)) (mode_at rows))
    (style_at rows)

-- what a line comes to
pub data Line : Type 0 where
  asks : Request → Line
  help : Line
  version : Line
  refused : Line

-- after the program's name the words ask for the page on the language of scripts
abbrev pub asks_language : List Text → Bool
asks_language words =
    length words == 3 && (bytes_eq (slice_index_or words 1 []) (codes "help")
    && bytes_eq (slice_index_or words 2 []) (codes "language"))
