-- Beside what the headline reaches (`audit/AsIfSerial.antt`): what else contracts and proofs use.
use Rattle.qs_program.specs.audit.Program.{ProgramShape}
use Rattle.qs_program.specs.Sound.{IsSound}
use Rattle.qs_played.specs.audit.Played.{Played}
use Rattle.qs_promises.specs.audit.Runs.{IsRun, Way}
use Rattle.qs_promises.specs.audit.AsIfSerial.{IsAsIfSerial}

-- for every checked program, in whichever way it is run
abbrev pub RunsAreAsIfSerial : Type 0
RunsAreAsIfSerial = (p : ProgramShape) → IsSound p → (way : Way) (r : Played) → IsRun p way r → IsAsIfSerial p r
