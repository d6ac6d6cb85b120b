-- Beside what the headline reaches (`audit/Line.antt`): what else contracts and proofs use.
use Rattle.std.specs.Prelude.{◌≡◌, ◌≢◌, ℕ, List, [], ◌∷◌, ◌++◌, map, Vec, codes, Option, Some, None, Result, Ok, Err, ⊤, Bool, false, if◌then◌else◌, ◌||◌, ◌&&◌, not, is_some, option_map, option_and_then, unwrap_or}
use Rattle.std.specs.Option.{option_map_or}
use Rattle.std.specs.Global.{Global}
use Rattle.std.specs.Str.{bytes_eq}
use Rattle.clap.specs.Faults.{fault_of}
use Rattle.clap.specs.Kinds.{IsAmong, Kinds}
use Rattle.clap.specs.Words.{Row, Text, all_of, first_of, subcommand_of}
use Rattle.clap.specs.declared.error.kind.ErrorKind.TheVariants.{DisplayHelp, DisplayVersion, OutOfMemory}
use Rattle.clap.specs.declared.error.kind.ErrorKind.{ErrorKind}
use Rattle.qs_conditions.specs.Claims.{word as word_of}
use Rattle.qs_conditions.specs.Reads.{condition_in, sum_in}
use Rattle.qs_conditions.specs.declared.claim.Quantifier.TheVariants as quantifier
use Rattle.qs_line.specs.audit.Parts.{clients_in, each_in}
use Rattle.qs_line.specs.Parts.{orders_in}
use Rattle.qs_line.specs.declared.parts.Part.{Part}
use Rattle.qs_line.specs.audit.Apart.{flag_at, has_apart}
use Rattle.qs_line.specs.audit.Command.{qs_app}
use Rattle.qs_line.specs.Limits.{most_front, most_threads, most_times}
use Rattle.qs_line.specs.declared.line.Format.{Format}
use Rattle.qs_line.specs.declared.line.Format.TheVariants as format
use Rattle.qs_line.specs.declared.line.GraphFormat.{GraphFormat}
use Rattle.qs_line.specs.declared.line.GraphFormat.TheVariants as graph_format
use Rattle.qs_line.specs.declared.line.OutcomesFormat.{OutcomesFormat}
use Rattle.qs_line.specs.declared.line.OutcomesFormat.TheVariants as outcomes_format
use Rattle.qs_line.specs.declared.line.LineFault.{LineFault}
use Rattle.qs_line.specs.declared.line.LineFault.TheVariants as fault
use Rattle.qs_line.specs.declared.line.ReportFormat.{ReportFormat}
use Rattle.qs_line.specs.declared.line.ReportFormat.TheVariants as report_format
use Rattle.qs_line.specs.declared.line.Settings.{Settings}
use Rattle.qs_line.specs.declared.line.Settings.TheVariants as word
use Rattle.qs_line.specs.declared.line.Asking.{Asking}
use Rattle.qs_line.specs.declared.line.Asking.TheVariants as asking
use Rattle.qs_line.specs.declared.question.Question.{Question}
use Rattle.qs_line.specs.declared.question.Question.TheVariants as question
use Rattle.qs_line.specs.declared.plan.Plan.{Plan}
use Rattle.qs_line.specs.declared.plan.Plan.TheVariants as plan
use Rattle.qs_line.specs.audit.Line.{PlanShape, by_schedule, by_order, Request, check, graph, rules, play, syncs, run, tally, ask, estimate, fronts, alike, outcomes, number_in, mode_at, chunk_at, has_times, plan_at, rules_at, play_at, single_run_at, Line, asks, help, version, refused, asks_language}

-- the format of a refusal where graphs are asked for: beside a drawing it is text
abbrev pub format_beside : GraphFormat → Format
format_beside graph_format.Text = format.Text
format_beside graph_format.Json = format.Json
format_beside graph_format.Dot = format.Text

-- where outcomes are asked for
abbrev pub format_beside_outcomes : OutcomesFormat → Format
format_beside_outcomes (outcomes_format.List how) = how
format_beside_outcomes (outcomes_format.Ends how) = how
format_beside_outcomes outcomes_format.Dot = format.Text

-- and where a report is asked for: beside a picture it is text
abbrev pub format_beside_report : ReportFormat → Format
format_beside_report report_format.Text = format.Text
format_beside_report report_format.Json = format.Json
format_beside_report report_format.Svg = format.Text

-- the format in which a result is asked for, and its refusal
abbrev pub format_of_request : Request → Format
format_of_request (check how) = how
format_of_request (graph how) = format_beside how
format_of_request (rules style plan) = format_beside_report style.format
format_of_request (play style mode chunk plan) = format_beside_report style.format
format_of_request (syncs how plan) = how
format_of_request (run style mode chunk) = format_beside_report style.format
format_of_request (tally how mode chunk times) = how
format_of_request (ask questions how limit threads front) = how
format_of_request (estimate how front) = how
format_of_request (fronts how blocks limit orders) = how
format_of_request (alike how limit) = how
format_of_request (outcomes how limit threads front) = format_beside_outcomes how

abbrev pub plan_of : Plan → PlanShape
plan_of (plan.Schedule rounds picks) = by_schedule rounds picks.items
plan_of (plan.Order clients) = by_order clients.items

abbrev pub request_of : Settings → Request
request_of (word.Check how) = check how
request_of (word.Graph how) = graph how
request_of (word.Rules style plan) = rules style (plan_of plan)
request_of (word.Play style mode chunk plan) = play style mode chunk (plan_of plan)
request_of (word.Syncs how plan) = syncs how (plan_of plan)
request_of (word.Run style mode chunk) = run style mode chunk
request_of (word.Tally how mode chunk times) = tally how mode chunk times
request_of (word.Ask questions how limit threads front) = ask questions.items how limit threads front.items
request_of (word.Estimate how front) = estimate how front.items
request_of (word.Fronts how blocks limit orders) =
    fronts how blocks limit (map (λ (order : Vec Part Global). order.items) orders.items)
request_of (word.Alike how limit) = alike how limit
request_of (word.Outcomes how limit threads front) = outcomes how limit threads front.items

abbrev pub format_in : Text → Option Format
format_in text =
    if bytes_eq text (codes "text") then Some format.Text
    else if bytes_eq text (codes "json") then Some format.Json else None

abbrev pub graph_format_in : Text → Option GraphFormat
graph_format_in text =
    if bytes_eq text (codes "text") then Some graph_format.Text
    else if bytes_eq text (codes "json") then Some graph_format.Json
    else if bytes_eq text (codes "dot") then Some graph_format.Dot else None

-- whether warnings are asked for after the word that clap meets
abbrev pub warns_met : Option (Text × List Row) → Bool
warns_met None = false
warns_met (Some entry) = flag_at (codes "warn") entry.1

-- whether the limits that are left are asked for after it
abbrev pub is_verbose_met : Option (Text × List Row) → Bool
is_verbose_met None = false
is_verbose_met (Some entry) = flag_at (codes "verbose") entry.1

abbrev pub format_at : List Row → Option Format
format_at rows = option_and_then format_in (first_of (codes "format") rows)

abbrev pub graph_format_at : List Row → Option GraphFormat
graph_format_at rows = option_and_then graph_format_in (first_of (codes "format") rows)

-- outcomes in a format of graphs
abbrev pub listed_as_graphs : GraphFormat → OutcomesFormat
listed_as_graphs graph_format.Text = outcomes_format.List format.Text
listed_as_graphs graph_format.Json = outcomes_format.List format.Json
listed_as_graphs graph_format.Dot = outcomes_format.Dot

-- the ends alone where the line asks for them, which are no drawing
abbrev pub outcomes_format_at : List Row → Option OutcomesFormat
outcomes_format_at rows =
    if flag_at (codes "ends") rows then option_map outcomes_format.Ends (format_at rows)
    else option_map listed_as_graphs (graph_format_at rows)

abbrev pub limit_at : List Row → Option ℕ
limit_at rows = option_and_then (number_in 1 4294967295) (first_of (codes "limit") rows)

abbrev pub times_at : List Row → Option ℕ
times_at rows = option_and_then (number_in 1 most_times) (first_of (codes "times") rows)

-- how many blocks a front has
abbrev pub blocks_at : List Row → Option ℕ
blocks_at rows = option_and_then (number_in 1 most_front) (first_of (codes "blocks") rows)

-- one thread where the line has no number of them
abbrev pub threads_at : List Row → Option ℕ
threads_at rows = unwrap_or (option_map (number_in 1 most_threads) (first_of (codes "threads") rows)) (Some 1)

-- such a number stands on the line
abbrev pub has_threads : List Row → Bool
has_threads rows = is_some (first_of (codes "threads") rows)

-- no client where the line has no list of them
abbrev pub front_at : List Row → Option (List Part)
front_at rows = unwrap_or (option_map clients_in (first_of (codes "after") rows)) (Some [])

abbrev pub check_at : List Row → Option Request
check_at rows = option_map check (format_at rows)

abbrev pub graph_at : List Row → Option Request
graph_at rows = option_map graph (graph_format_at rows)

-- the synchronisations of each mode, for an order where the line has one, and else for that of a schedule
abbrev pub syncs_at : List Row → Option Request
syncs_at rows = option_and_then (λ how. option_map (syncs how) (plan_at rows)) (format_at rows)

-- many runs, whose ends are counted
abbrev pub tally_at : List Row → Option Request
tally_at rows =
    option_and_then (λ how. option_and_then (λ mode. option_and_then (λ chunk. option_map (tally how mode chunk)
    (times_at rows)) (chunk_at rows)) (mode_at rows)) (format_at rows)

-- a single run, or many where the line has a number of them
abbrev pub run_at : List Row → Option Request
run_at rows = if has_times rows then tally_at rows else single_run_at rows

-- what a setting of `ask` asks: claims, or the values of sums
abbrev pub setting_name : Asking → Text
setting_name (asking.Claims q) = word_of q
setting_name asking.Values = codes "values"

-- the question of a text, where the text is a condition, or a sum
abbrev pub question_in : Asking → Text → Option Question
question_in (asking.Claims q) text =
    option_map (λ steps. question.Claim (record { line = 0; quantifier = q; condition = steps })) (condition_in text)
question_in asking.Values text = option_map question.Values (sum_in text)

-- the questions before these, and those of a setting, one for each of its texts, where each can be read
abbrev pub questions_by : Asking → List Row → (before : Option (List Question)) → Option (List Question)
questions_by how rows before =
    option_and_then (λ questions. option_map (λ own. questions ++ own)
    (each_in (question_in how) (unwrap_or (all_of (setting_name how) rows) []))) before

-- the questions of a line: first the claims of all ends, then those of some, throughout, of some configuration on the way
-- and of none, each as they follow one another on the line, and then which values sums have
abbrev pub questions_at : List Row → Option (List Question)
questions_at rows =
    questions_by asking.Values rows (questions_by (asking.Claims quantifier.Never) rows
    (questions_by (asking.Claims quantifier.Ever) rows (questions_by (asking.Claims quantifier.Throughout) rows
    (questions_by (asking.Claims quantifier.Some) rows (questions_by (asking.Claims quantifier.Always) rows (Some []))))))

-- answers, as text or as JSON, to so many questions side by side; where there are no questions, to the claims of the
-- script
abbrev pub ask_at : List Row → Option Request
ask_at rows =
    option_and_then (λ questions. option_and_then (λ how. option_and_then (λ limit. option_and_then
    (λ threads. option_map (ask questions how limit threads) (front_at rows)) (threads_at rows)) (limit_at rows))
    (format_at rows)) (questions_at rows)

-- by how many threads outcomes are searched for: a drawing by one alone
abbrev pub threads_beside : OutcomesFormat → List Row → Option ℕ
threads_beside outcomes_format.Dot rows = if has_threads rows then None else Some 1
threads_beside (outcomes_format.List how) rows = threads_at rows
threads_beside (outcomes_format.Ends how) rows = threads_at rows

abbrev pub list_at : List Row → Option Request
list_at rows =
    option_and_then (λ how. option_and_then (λ limit. option_and_then (λ threads. option_map (outcomes how limit threads)
    (front_at rows)) (threads_beside how rows)) (limit_at rows)) (outcomes_format_at rows)

-- an estimate
abbrev pub estimate_at : List Row → Option Request
estimate_at rows = option_and_then (λ how. option_map (estimate how) (front_at rows)) (format_at rows)

-- one of all outcomes that differ by alike clients
abbrev pub alike_at : List Row → Option Request
alike_at rows = option_and_then (λ how. option_map (alike how) (limit_at rows)) (format_at rows)

-- one of all alike outcomes where the line asks for these, and else all outcomes
abbrev pub outcomes_at : List Row → Option Request
outcomes_at rows = if flag_at (codes "alike") rows then alike_at rows else list_at rows

-- the orders after which fronts are looked for: several where the line has them, and else one
abbrev pub leads_at : List Row → Option (List (List Part))
leads_at rows =
    option_map_or orders_in (first_of (codes "leads") rows) (option_map (λ front. front ∷ []) (front_at rows))

-- the configurations after so many blocks more than each of these
abbrev pub fronts_at : List Row → Option Request
fronts_at rows =
    option_and_then (λ how. option_and_then (λ blocks. option_and_then (λ limit. option_map (fronts how blocks limit)
    (leads_at rows)) (limit_at rows)) (blocks_at rows)) (format_at rows)

-- what a word asks for, with the entries that clap finds after it
abbrev pub request_of_word : Text → List Row → Option Request
request_of_word name rows =
    if bytes_eq name (codes "check") then check_at rows
    else if bytes_eq name (codes "graph") then graph_at rows
    else if bytes_eq name (codes "rules") then rules_at rows
    else if bytes_eq name (codes "play") then play_at rows
    else if bytes_eq name (codes "run") then run_at rows
    else if bytes_eq name (codes "syncs") then syncs_at rows
    else if bytes_eq name (codes "outcomes") then outcomes_at rows
    else if bytes_eq name (codes "ask") then ask_at rows
    else if bytes_eq name (codes "fronts") then fronts_at rows
    else if bytes_eq name (codes "estimate") then estimate_at rows else None

-- the same, where no two settings stand on the line that do not stand together
abbrev pub request_at : Text → List Row → Option Request
request_at name rows = if has_apart rows then None else request_of_word name rows

-- what the word that clap meets asks for
abbrev pub request_met : Option (Text × List Row) → Option Request
request_met None = None
request_met (Some entry) = request_at entry.0 entry.1

-- what it asks for
abbrev pub request_by : Line → Option Request
request_by (asks request) = Some request
request_by help = None
request_by version = None
request_by refused = None

-- the format of what a line comes to: what no request asks for is text
abbrev pub format_by : Line → Format
format_by (asks request) = format_of_request request
format_by help = format.Text
format_by version = format.Text
format_by refused = format.Text

abbrev pub line_met : Option Request → Line
line_met (Some request) = asks request
line_met None = refused

-- what a line comes to that clap answers by an error of this kind
abbrev pub line_of_kind : ErrorKind → Line
line_of_kind DisplayHelp = help
line_of_kind DisplayVersion = version
line_of_kind _ = refused

-- by the kinds of error that clap may answer: none where it takes the words
abbrev pub line_by : Kinds → Option Request → Line
line_by [] request = line_met request
line_by (kind ∷ kinds) request = line_of_kind kind

-- the line of these words, the program's name first
abbrev pub line_in : List Text → Line
line_in words =
    if asks_language words then help
    else line_by (fault_of qs_app words) (request_met (subcommand_of qs_app words))

-- whether the line of these words asks for warnings
abbrev pub warns_in : List Text → Bool
warns_in words = warns_met (subcommand_of qs_app words)

-- whether it asks for the limits that are left
abbrev pub is_verbose_in : List Text → Bool
is_verbose_in words = is_verbose_met (subcommand_of qs_app words)

-- the fault of a line that clap refuses by an error of this kind
abbrev pub IsFault : ErrorKind → LineFault → Type 0
IsFault kind fault.Refused = (kind ≢ DisplayHelp) × (kind ≢ DisplayVersion) × (kind ≢ OutOfMemory)
IsFault kind (fault.Help text) = kind ≡ DisplayHelp
IsFault kind (fault.Version text) = kind ≡ DisplayVersion
IsFault kind fault.Memory = ⊤

-- the fault by one of some kinds
abbrev pub IsFaultAmong : Kinds → LineFault → Type 0
IsFaultAmong kinds fault.Memory = ⊤
IsFaultAmong kinds f = (kind : ErrorKind) × IsAmong kind kinds × IsFault kind f

-- the answer is what the line comes to, unless memory runs out
abbrev pub IsAnswer : Line → Result Settings LineFault → Type 0
IsAnswer line (Ok settings) = line ≡ asks (request_of settings)
IsAnswer line (Err fault.Refused) = line ≡ refused
IsAnswer line (Err (fault.Help text)) = line ≡ help
IsAnswer line (Err (fault.Version text)) = line ≡ version
IsAnswer line (Err fault.Memory) = ⊤
