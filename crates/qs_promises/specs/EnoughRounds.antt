-- Enough rounds finish a run: the steps that can be made are few, and until it has finished each round makes one.
use Rattle.std.specs.Prelude.{◌≡◌, ◌≤◌, true}
use Rattle.qs_program.specs.audit.Program.{ProgramShape}
use Rattle.qs_program.specs.Sound.{IsSound}
use Rattle.qs_played.specs.audit.Played.{Played}
use Rattle.qs_played.specs.audit.Schedule.{most_rounds}
use Rattle.qs_plain_laws.specs.progress.Steps.{most_steps_of}
use Rattle.qs_core_laws.specs.progress.CoreSteps.{most_core_steps_of}
use Rattle.qs_promises.specs.audit.Runs.{IsRun, Way, by_rules, on_machine, on_threads}

-- There are at least as many rounds as the program's blocks have steps, by the plain rules or on the optimised machine.
-- On threads there are no rounds.
abbrev pub HasEnoughRounds : ProgramShape → Way → Type 0
HasEnoughRounds p (by_rules picks rounds) = most_steps_of p ≤ rounds
HasEnoughRounds p (on_machine mode size picks rounds) = most_core_steps_of p ≤ rounds
HasEnoughRounds p (on_threads mode size) = ⊥

-- for every checked program, whatever the picks, the mode and the size of chunks
abbrev pub EnoughRoundsFinish : Type 0
EnoughRoundsFinish =
    (p : ProgramShape) → IsSound p → (way : Way) (r : Played) → IsRun p way r → HasEnoughRounds p way
    → r.finished ≡ true

-- there are as many rounds as a command line plays by default, 1,000,000
abbrev pub HasDefaultRounds : Way → Type 0
HasDefaultRounds (by_rules picks rounds) = rounds ≡ most_rounds
HasDefaultRounds (on_machine mode size picks rounds) = rounds ≡ most_rounds
HasDefaultRounds (on_threads mode size) = ⊥

-- These are enough for every checked program, by the limits of the language.
abbrev pub DefaultRoundsAreEnough : Type 0
DefaultRoundsAreEnough = (p : ProgramShape) → IsSound p → (way : Way) → HasDefaultRounds way → HasEnoughRounds p way

-- So what is played by default has finished.
abbrev pub DefaultRoundsFinish : Type 0
DefaultRoundsFinish =
    (p : ProgramShape) → IsSound p → (way : Way) (r : Played) → IsRun p way r → HasDefaultRounds way → r.finished ≡ true
