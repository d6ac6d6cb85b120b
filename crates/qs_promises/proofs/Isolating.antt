-- Every run is isolated: by the plain rules and on the optimised machine by the law of the machine, on threads by the law
-- of running threads.
use Rattle.std.proofs.Common.{ℕ, List, [], sym, subst}
use Rattle.qs_objects.specs.declared.Request.{Request}
use Rattle.qs_objects.specs.declared.held.Ticket.{Ticket}
use Rattle.qs_program.specs.audit.Program.{ProgramShape}
use Rattle.qs_program.specs.Sound.{IsSound}
use Rattle.qs_syncset.specs.declared.mode.Mode.{Mode}
use Rattle.qs_played.specs.Isolation.{IsIsolated}
use Rattle.qs_played.specs.audit.Played.{Played}
use Rattle.qs_played.specs.audit.Schedule.{schedule}
use Rattle.qs_played.specs.declared.schedule.actor.Actor.{Actor}
use Rattle.qs_plain_laws.specs.audit.Plain.{begin}
use Rattle.qs_plain_laws.specs.PlainIsolation.{commands_in_queue}
use Rattle.qs_plain_laws.specs.audit.PlainSchedule.{plays}
use Rattle.qs_plain_laws.proofs.Isolating.{runs_isolated}
use Rattle.qs_core_laws.specs.audit.Core.{core_begin}
use Rattle.qs_core_laws.specs.audit.CoreSchedule.{core_plays}
use Rattle.qs_core_laws.specs.CoreSchedule.{on_way}
use Rattle.qs_core_laws.proofs.CoreIsolating.{core_isolated}
use Rattle.qs_promises.specs.Isolated.{RunsAreIsolated}
use Rattle.qs_promises.specs.audit.Runs.{IsRun, by_rules, on_machine, on_threads}
use Rattle.qs_promises.proofs.Calls.{outcome_of_run}

-- with some commands on their way
abbrev pub IsolatedSomehow : ProgramShape → Played → Type 0
IsolatedSomehow p r = (waits : ℕ → Ticket → List Request) × IsIsolated p r waits

rules_isolated : (p : ProgramShape) → IsSound p → (picks : List Actor) (rounds : ℕ) (r : Played)
    → IsRun p (by_rules picks rounds) r → IsolatedSomehow p r
rules_isolated p sound picks rounds r (few, named, shows) =
    let s = plays p (schedule p picks rounds) (begin p) in (
      commands_in_queue s,
      subst (λ q. IsIsolated p q (commands_in_queue s)) (sym shows) (runs_isolated p sound (schedule p picks rounds)),
    )

machine_isolated : (p : ProgramShape) → IsSound p
    → (mode : Mode) (size : ℕ) (picks : List Actor) (rounds : ℕ) (r : Played)
    → IsRun p (on_machine mode size picks rounds) r → IsolatedSomehow p r
machine_isolated p sound mode size picks rounds r (few, named, (code, are, shows)) =
    let s = core_plays code size (schedule p picks rounds) (core_begin p) in (
      on_way s,
      subst (λ q. IsIsolated p q (on_way s)) (sym shows)
          (core_isolated p sound mode code are size (schedule p picks rounds)),
    )

pub all_isolated : RunsAreIsolated
all_isolated p sound (by_rules picks rounds) r run = rules_isolated p sound picks rounds r run
all_isolated p sound (on_machine mode size picks rounds) r run = machine_isolated p sound mode size picks rounds r run
all_isolated p sound (on_threads mode size) r run = (λ h t. [], (outcome_of_run p sound mode size r run).isolated)
