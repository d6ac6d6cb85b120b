-- States in range: what an object holds stays in the range of its kind, whatever blocks run.
use Rattle.std.specs.Prelude.{ℕ, List}
use Rattle.qs_objects.specs.Objects.{IsInRange}
use Rattle.qs_objects.specs.declared.held.Ticket.{Ticket}
use Rattle.qs_program.specs.audit.Program.{ProgramShape}
use Rattle.qs_program.specs.Sound.{IsSound}
use Rattle.qs_meaning.specs.audit.Configurations.{configuration_after}
use Rattle.qs_meaning.specs.audit.Solo.{States}

abbrev pub AreInRange : States → Type 0
AreInRange st = (h : ℕ) → IsInRange (st h).content

-- After any order each object is in range.
abbrev pub OrdersKeepRanges : Type 0
OrdersKeepRanges =
    (p : ProgramShape) → IsSound p → (order : List Ticket) → AreInRange (configuration_after p order).states
