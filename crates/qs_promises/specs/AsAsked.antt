-- A run shows what was asked for: the state after exactly the picks and the rounds, or, on threads, the end.
use Rattle.std.specs.Prelude.{◌≡◌, ℕ}
use Rattle.qs_program.specs.audit.Program.{ProgramShape}
use Rattle.qs_syncset.specs.audit.Codes.{ClientCode, AreCodes}
use Rattle.qs_played.specs.Outcomes.{IsOver}
use Rattle.qs_played.specs.audit.Played.{Played}
use Rattle.qs_played.specs.audit.Schedule.{schedule}
use Rattle.qs_plain_laws.specs.audit.Plain.{begin}
use Rattle.qs_plain_laws.specs.audit.PlainSchedule.{played_of, plays}
use Rattle.qs_core_laws.specs.audit.Core.{core_begin}
use Rattle.qs_core_laws.specs.audit.CoreSchedule.{core_played, core_plays}
use Rattle.qs_promises.specs.audit.Runs.{IsRun, Way, by_rules, on_machine, on_threads}

-- By the plain rules and on the optimised machine, the state to which the machine comes from its beginning, once each
-- actor of the schedule was asked for a step: the picks, and then the rounds. On threads each block has ended, and the
-- run is finished.
abbrev pub ShowsAsAsked : ProgramShape → Way → Played → Type 0
ShowsAsAsked p (by_rules picks rounds) r = r ≡ played_of p (plays p (schedule p picks rounds) (begin p))
ShowsAsAsked p (on_machine mode size picks rounds) r =
    (code : ℕ → ClientCode) × AreCodes p mode code
    × (r ≡ core_played p (core_plays code size (schedule p picks rounds) (core_begin p)))
ShowsAsAsked p (on_threads mode size) r = IsOver r

-- for every program, in whichever way it is run
abbrev pub RunsAreAsAsked : Type 0
RunsAreAsAsked = (p : ProgramShape) (way : Way) (r : Played) → IsRun p way r → ShowsAsAsked p way r
