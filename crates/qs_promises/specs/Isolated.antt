-- One statement on all runs, from which the first four promises follow.
use Rattle.std.specs.Prelude.{ℕ, List}
use Rattle.qs_objects.specs.declared.Request.{Request}
use Rattle.qs_objects.specs.declared.held.Ticket.{Ticket}
use Rattle.qs_program.specs.audit.Program.{ProgramShape}
use Rattle.qs_program.specs.Sound.{IsSound}
use Rattle.qs_played.specs.Isolation.{IsIsolated}
use Rattle.qs_played.specs.audit.Played.{Played}
use Rattle.qs_promises.specs.audit.Runs.{IsRun, Way}

-- for every checked program, in whichever way it is run: what is shown is isolated, with some commands on their way
abbrev pub RunsAreIsolated : Type 0
RunsAreIsolated =
    (p : ProgramShape) → IsSound p → (way : Way) (r : Played) → IsRun p way r
    → (waits : ℕ → Ticket → List Request) × IsIsolated p r waits
