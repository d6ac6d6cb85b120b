-- Every beginning leads to an outcome: whatever was picked, there are further picks after which the run has finished.
use Rattle.std.specs.Prelude.{List, ◌++◌}
use Rattle.qs_program.specs.audit.Program.{ProgramShape}
use Rattle.qs_program.specs.Sound.{IsSound}
use Rattle.qs_played.specs.audit.Played.{Played}
use Rattle.qs_played.specs.audit.Schedule.{schedule}
use Rattle.qs_played.specs.declared.schedule.actor.Actor.{Actor}
use Rattle.qs_promises.specs.Outcomes.{IsReached}
use Rattle.qs_promises.specs.audit.Runs.{IsRun, Way, by_rules, on_machine, on_threads}

-- The run goes on by further picks: behind all who were asked for a step so far, and without a round after them. On
-- threads nobody picks.
abbrev pub gone_on : ProgramShape → Way → List Actor → Way
gone_on p (by_rules picks rounds) further = by_rules (schedule p picks rounds ++ further) 0
gone_on p (on_machine mode size picks rounds) further = on_machine mode size (schedule p picks rounds ++ further) 0
gone_on p (on_threads mode size) further = on_threads mode size

-- With some further picks it is finished and covered: its order is complete, and what it shows is among all outcomes.
abbrev pub LeadsToAnOutcome : ProgramShape → Way → Type 0
LeadsToAnOutcome p way = (further : List Actor) × ((r : Played) × IsReached p (gone_on p way further) r.order r)

-- for every run of every checked program, as far as it has come, in whichever way it was run
abbrev pub EveryBeginningLeadsToAnOutcome : Type 0
EveryBeginningLeadsToAnOutcome =
    (p : ProgramShape) → IsSound p → (way : Way) (begun : Played) → IsRun p way begun → LeadsToAnOutcome p way
