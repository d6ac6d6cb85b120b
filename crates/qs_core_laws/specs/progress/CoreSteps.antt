-- How many steps a run of the optimised machine can take.
use Rattle.std.specs.Prelude.{◌≤◌, ℕ, ◌+◌, ◌*◌, List, length, sum_by}
use Rattle.qs_program.specs.audit.Limits.{most_objects, most_requests}
use Rattle.qs_program.specs.Limits.{most_tickets}
use Rattle.qs_program.specs.audit.Program.{BlockShape, ProgramShape, block_load}
use Rattle.qs_program.specs.Sound.{IsSound}
use Rattle.qs_syncset.specs.declared.mode.Mode.{Mode}
use Rattle.qs_syncset.specs.audit.Codes.{ClientCode, AreCodes}
use Rattle.qs_played.specs.declared.schedule.actor.Actor.{Actor}
use Rattle.qs_plain_laws.specs.progress.Steps.{steps_made_by}
use Rattle.qs_core_laws.specs.audit.Core.{Core, core_begin, core_step}

-- how many actors of a list have a step when their turn comes
abbrev pub core_steps_made : (ℕ → ClientCode) → ℕ → List Actor → Core → ℕ
core_steps_made code size actors s = steps_made_by (core_step code size) actors s

-- A block is reserved; each handler of its list takes its ticket, and an End that is sent. A request wants at most six
-- steps: a Sync is sent and taken, the object is given and got, and it is sent home and taken.
abbrev pub core_steps_of_block : BlockShape → ℕ
core_steps_of_block b = 1 + 3 * length b.reserved + 6 * block_load b

abbrev pub most_core_steps_of : ProgramShape → ℕ
most_core_steps_of p = sum_by (λ c. sum_by core_steps_of_block c.blocks) p.clients

-- For every checked program, mode, chunk size and list of actors.
abbrev pub CoreStepsAreBounded : Type 0
CoreStepsAreBounded =
    (p : ProgramShape) → IsSound p → (mode : Mode) (code : ℕ → ClientCode) → AreCodes p mode code
    → (size : ℕ) (actors : List Actor)
    → core_steps_made code size actors (core_begin p) ≤ most_core_steps_of p

-- By the limits of the language that is 612800 at most.
abbrev pub CoreBoundsAreSmall : Type 0
CoreBoundsAreSmall =
    (p : ProgramShape) → IsSound p → most_core_steps_of p ≤ 6 * most_requests + (1 + 3 * most_objects) * most_tickets
