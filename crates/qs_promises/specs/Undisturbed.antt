-- Beside what the headline reaches (`audit/Undisturbed.antt`): what else contracts and proofs use.
use Rattle.std.specs.Prelude.{◌<◌, ℕ, length}
use Rattle.qs_program.specs.audit.Program.{ProgramShape}
use Rattle.qs_program.specs.Sound.{IsSound}
use Rattle.qs_played.specs.audit.Played.{Played}
use Rattle.qs_promises.specs.audit.Runs.{IsRun, Way}
use Rattle.qs_promises.specs.audit.Undisturbed.{IsUndisturbed}

-- for every checked program, in whichever way it is run
abbrev pub BlocksAreUndisturbed : Type 0
BlocksAreUndisturbed =
    (p : ProgramShape) → IsSound p → (way : Way) (r : Played) → IsRun p way r
    → (h : ℕ) → h < length p.objects → IsUndisturbed p r h
