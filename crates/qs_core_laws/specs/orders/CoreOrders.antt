-- Runs of the optimised machine in which whole blocks follow one another in an order.
use Rattle.std.specs.Prelude.{◌≡◌, ℕ, true, List, Ok}
use Rattle.std.specs.List.{AllByRecursion}
use Rattle.qs_objects.specs.declared.held.Ticket.{Ticket}
use Rattle.qs_program.specs.audit.Program.{ProgramShape}
use Rattle.qs_program.specs.Sound.{IsSound}
use Rattle.qs_meaning.specs.audit.Configurations.{IsComplete}
use Rattle.qs_meaning.specs.audit.Serial.{IsLegal}
use Rattle.qs_syncset.specs.audit.Codes.{ClientCode, AreCodes}
use Rattle.qs_syncset.specs.declared.mode.Mode.{Mode}
use Rattle.qs_played.specs.Isolation.{IsIsolated}
use Rattle.qs_played.specs.audit.Played.{Played}
use Rattle.qs_played.specs.SyncSums.{AreSyncsCounted}
use Rattle.qs_played.specs.declared.schedule.actor.Actor.{Actor}
use Rattle.qs_core_laws.specs.audit.CoreSchedule.{core_played}
use Rattle.qs_core_laws.specs.CoreSchedule.{IsPlayedIn, core_scheduled, on_way}

-- What is shown after some picks, without a round after them, are exactly these tickets, in this order, and each of
-- their blocks has ended; where the order is complete, the run is finished. By the codes of the program in this mode it
-- is what those picks show, isolated and counted like every run.
pub record IsPlayedInOrderOn (p : ProgramShape) (mode : Mode) (size : ℕ) (due : List Ticket) (r : Played) : Type 0 where
  pub picks : List Actor
  pub played : IsPlayedIn p mode size picks 0 (Ok r)
  pub order : r.order ≡ due
  pub ended : AllByRecursion (λ e. e ≡ true) r.ended
  pub finished : IsComplete p due → r.finished ≡ true
  pub code : ℕ → ClientCode
  pub codes : AreCodes p mode code
  pub shown : r ≡ core_played p (core_scheduled p code size picks 0)
  pub isolated : IsIsolated p r (on_way (core_scheduled p code size picks 0))
  pub counted : AreSyncsCounted p mode r

-- for every checked program, mode, chunk size and legal order of its blocks
abbrev pub CoreOrdersArePlayed : Type 0
CoreOrdersArePlayed =
    (p : ProgramShape) → IsSound p → (mode : Mode) (code : ℕ → ClientCode) → AreCodes p mode code
    → (size : ℕ) (order : List Ticket) → IsLegal p order
    → (r : Played) × IsPlayedInOrderOn p mode size order r
