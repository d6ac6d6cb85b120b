-- Beside what the headline reaches (`audit/Finished.antt`): what else contracts and proofs use.
use Rattle.std.specs.Prelude.{◌≡◌, true}
use Rattle.qs_program.specs.audit.Program.{ProgramShape}
use Rattle.qs_program.specs.Sound.{IsSound}
use Rattle.qs_played.specs.audit.Played.{Played}
use Rattle.qs_promises.specs.audit.Runs.{IsRun, Way}
use Rattle.qs_promises.specs.audit.Finished.{IsWholeRun}

-- for every checked program, in whichever way it is run
abbrev pub FinishedRunsAreWhole : Type 0
FinishedRunsAreWhole =
    (p : ProgramShape) → IsSound p → (way : Way) (r : Played) → IsRun p way r → r.finished ≡ true → IsWholeRun p r
