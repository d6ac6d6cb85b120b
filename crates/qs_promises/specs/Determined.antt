-- What a run shows follows from the program and from how it was asked for.
use Rattle.std.specs.Prelude.{◌≡◌, ⊤}
use Rattle.qs_program.specs.audit.Program.{ProgramShape}
use Rattle.qs_played.specs.audit.Played.{Played}
use Rattle.qs_promises.specs.audit.Runs.{IsRun, Way, by_rules, on_machine, on_threads}

-- by the plain rules or on the optimised machine, and not on threads
abbrev pub IsByPicks : Way → Type 0
IsByPicks (by_rules picks rounds) = ⊤
IsByPicks (on_machine mode size picks rounds) = ⊤
IsByPicks (on_threads mode size) = ⊥

-- two runs in one such way show the same
abbrev pub RunsAreDetermined : Type 0
RunsAreDetermined =
    (p : ProgramShape) (way : Way) (one other : Played) → IsByPicks way → IsRun p way one → IsRun p way other → one ≡ other
