-- What is written, where the word is `rules`, `play` or `run` and the status is 0: the report of a run of the script that
-- the input's bytes are, in which every block had what it would have had alone. And where a claim is asked, or all
-- outcomes: an answer, or a list, that is true of every run.
use Rattle.std.specs.Prelude.{◌≡◌, ℕ, List, [], take, true, false, Option, Some, None, IfSome, IsOkAnd, ⊤}
use Rattle.std.specs.Io.KnownBytes.{Appends}
use Rattle.qs_check.specs.audit.Checked.{fault_of}
use Rattle.qs_line.specs.audit.Line.{Request, by_order, by_schedule, play, rules, run}
use Rattle.qs_line.specs.audit.RunLines.{run_in, style_of}
use Rattle.qs_line.specs.audit.Named.{actors_of, clients_of}
use Rattle.qs_line.specs.declared.line.ReportStyle.{ReportStyle}
use Rattle.qs_played.specs.audit.Played.{Played}
use Rattle.qs_played.specs.audit.Schedule.{most_rounds}
use Rattle.qs_played.specs.declared.schedule.actor.Actor.{Actor}
use Rattle.qs_program.specs.audit.Program.{ProgramShape}
use Rattle.qs_promises.specs.audit.AsIfSerial.{IsAsIfSerial}
use Rattle.qs_promises.specs.audit.Runs.{IsRun, Way, by_rules, on_machine, on_threads}
use Rattle.qs_check.specs.audit.resolution.Resolve.{program_of_items}
use Rattle.qs_serve.specs.audit.RunReports.{report_by}
use Rattle.qs_script.specs.audit.Reads.{IsScriptText}
use Rattle.qs_serial.specs.audit.NamedOrders.{order_of}
use Rattle.qs_serve.specs.audit.Due.{longest, told_report}
use Rattle.qs_script.specs.declared.tree.tree.Item.{Item}

-- It has the run made as its settings say. By a schedule these are the picks that its list names and then so many
-- rounds; by an order some picks that have the blocks follow one another in it. So it is under the plain rules, and so
-- it is in the optimised machine, in a mode and with chunks of a size. On threads only these two are asked for.
abbrev pub IsAskedFor : Request → ProgramShape → Way → Played → Type 0
IsAskedFor (rules style (by_schedule rounds picks)) p way r =
    IsOkAnd (actors_of p picks) (λ actors. way ≡ by_rules actors rounds)
IsAskedFor (rules style (by_order list)) p way r =
    IsOkAnd (clients_of p list) (λ clients. (r.order ≡ order_of clients) × ((picks : List Actor) × (way ≡ by_rules picks 0)))
IsAskedFor (play style mode size (by_schedule rounds picks)) p way r =
    IsOkAnd (actors_of p picks) (λ actors. way ≡ on_machine mode size actors rounds)
IsAskedFor (play style mode size (by_order list)) p way r =
    IsOkAnd (clients_of p list)
    (λ clients. (r.order ≡ order_of clients) × ((picks : List Actor) × (way ≡ on_machine mode size picks 0)))
IsAskedFor (run style mode size) p way r = way ≡ on_threads mode size
IsAskedFor _ p way r = ⊥

-- A run on threads is asked for to its end, and so is one by as many rounds as a line has by default.
abbrev pub IsToTheEnd : Request → Type 0
IsToTheEnd (rules style (by_schedule rounds picks)) = rounds ≡ most_rounds
IsToTheEnd (play style mode size (by_schedule rounds picks)) = rounds ≡ most_rounds
IsToTheEnd (run style mode size) = ⊤
IsToTheEnd _ = ⊥

-- The text is a script, which is accepted; this is a run of its program, as it was asked for; and what was written is
-- its report, with lines of its steps before it and of its queues behind it, if these were asked for. The run is as if
-- its blocks had been run one after another, each whole and alone, and it is finished where it was asked for to its end.
pub record IsReported (request : Request) (style : ReportStyle) (text : List ℕ) (old new : Option (List ℕ)) : Type 0 where
  pub script : List Item
  pub read : IsScriptText text script
  pub accepted : fault_of script ≡ None
  pub way : Way
  pub shown : Played
  pub asked : IsAskedFor request (program_of_items script) way shown
  pub is_run : IsRun (program_of_items script) way shown
  pub steps : List ℕ
  pub queues : List ℕ
  pub no_steps : style.steps ≡ false → steps ≡ []
  pub no_queues : style.queues ≡ false → queues ≡ []
  pub written : Appends old new (told_report steps queues (report_by style (program_of_items script) shown))
  pub serial : IsAsIfSerial (program_of_items script) shown
  pub finished : IsToTheEnd request → shown.finished ≡ true

-- Whatever the words, the input's bytes (where they are known, and as far as a script may be read) and the streams are:
-- where the words ask for a run, by `rules`, `play` or `run`, what was written reports one that is as if serial.
abbrev pub IsHeadline : List (List ℕ) → Option (List ℕ) → (old new : Option (List ℕ)) → Type 0
IsHeadline words known old new =
    (request : Request) (style : ReportStyle) → run_in words ≡ Some request → style_of request ≡ Some style
    → IfSome known (λ bytes. IsReported request style (take longest bytes) old new)
