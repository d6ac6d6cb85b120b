-- What comes of a program that is run on threads: what the serial run of its blocks shows, along a legal order of them.
-- `IsOutcome` alone says it, and each of its promises can be read by itself.
use Rattle.std.specs.Prelude.{◌≡◌, ℕ}
use Rattle.qs_program.specs.audit.Program.{ProgramShape}
use Rattle.qs_syncset.specs.audit.Codes.{ClientCode, AreCodes}
use Rattle.qs_syncset.specs.declared.mode.Mode.{Mode}
use Rattle.qs_played.specs.audit.Played.{Played}
use Rattle.qs_run_laws.specs.audit.ThreadRuns.{IsThreadRun, ThreadRun, shown_by}

-- What is shown is what threads have shown that ran this program, compiled in this mode, with chunks of this size.
abbrev pub IsShownByThreads : ProgramShape → Mode → ℕ → Played → Type 0
IsShownByThreads p mode size o =
    (code : ℕ → ClientCode) × (r : ThreadRun) × AreCodes p mode code × IsThreadRun p code size r × (o ≡ shown_by p r)
