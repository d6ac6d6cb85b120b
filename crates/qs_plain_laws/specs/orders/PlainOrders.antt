-- Runs by the plain rules in which whole blocks follow one another in an order.
use Rattle.std.specs.Prelude.{◌≡◌, true, List, Ok}
use Rattle.std.specs.List.{AllByRecursion}
use Rattle.qs_objects.specs.declared.held.Ticket.{Ticket}
use Rattle.qs_program.specs.audit.Program.{ProgramShape}
use Rattle.qs_program.specs.Sound.{IsSound}
use Rattle.qs_meaning.specs.audit.Configurations.{IsComplete}
use Rattle.qs_meaning.specs.audit.Serial.{IsLegal}
use Rattle.qs_played.specs.Isolation.{IsIsolated}
use Rattle.qs_played.specs.audit.Played.{Played}
use Rattle.qs_played.specs.declared.schedule.actor.Actor.{Actor}
use Rattle.qs_plain_laws.specs.PlainIsolation.{commands_in_queue}
use Rattle.qs_plain_laws.specs.PlainSchedule.{IsPlayed, scheduled}
use Rattle.qs_plain_laws.specs.PlainSyncSums.{AreQueriesCounted}

-- What is shown after some picks, without a round after them, are exactly these tickets, in this order, and each of
-- their blocks has ended; where the order is complete, the run is finished. It is isolated and counted like every run.
pub record IsPlayedInOrder (p : ProgramShape) (due : List Ticket) (r : Played) : Type 0 where
  pub picks : List Actor
  pub played : IsPlayed p picks 0 (Ok r)
  pub order : r.order ≡ due
  pub ended : AllByRecursion (λ e. e ≡ true) r.ended
  pub finished : IsComplete p due → r.finished ≡ true
  pub isolated : IsIsolated p r (commands_in_queue (scheduled p picks 0))
  pub counted : AreQueriesCounted p (scheduled p picks 0) r

-- for every checked program and every legal order of its blocks
abbrev pub OrdersArePlayed : Type 0
OrdersArePlayed =
    (p : ProgramShape) → IsSound p → (order : List Ticket) → IsLegal p order → (r : Played) × IsPlayedInOrder p order r
