-- Runs under the plain rules, computed by the definitions.
use Rattle.std.specs.Prelude.{ℕ, List}
use Rattle.qs_program.specs.audit.Program.{ProgramShape}
use Rattle.qs_played.specs.declared.schedule.actor.Actor.{Actor}
use Rattle.qs_played.specs.audit.Played.{Played}
use Rattle.qs_plain_laws.specs.audit.PlainSchedule.{played_of}
use Rattle.qs_plain_laws.specs.PlainSchedule.{scheduled}

abbrev pub shown_by_schedule : ProgramShape → List Actor → ℕ → Played
shown_by_schedule p picks rounds = played_of p (scheduled p picks rounds)
