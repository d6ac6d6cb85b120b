-- How many requests a block's trace has.
use Rattle.std.specs.Prelude.{ℕ, ◌≤◌, List, length}
use Rattle.std.specs.List.{AllByRecursion}
use Rattle.qs_objects.specs.audit.Parts.{part}
use Rattle.qs_objects.specs.declared.held.Ticket.{Ticket}
use Rattle.qs_program.specs.audit.Loads.{load_of}
use Rattle.qs_program.specs.audit.Program.{ProgramShape, text_of}
use Rattle.qs_program.specs.audit.Statements.{Statements}
use Rattle.qs_program.specs.audit.Values.{Locals}
use Rattle.qs_meaning.specs.Serial.{serial}
use Rattle.qs_meaning.specs.audit.Solo.{States, solo}

-- a block alone makes at most as many requests on an object as its load says, whatever the variables and the states
abbrev pub TracesWithinLoad : Type 0
TracesWithinLoad =
    (body : Statements) (l : Locals) (st : States) (h : ℕ) → length (part h (solo body l st).trace) ≤ load_of body h

-- so does each block of a serial run
abbrev pub SerialWithinLoad : Type 0
SerialWithinLoad =
    (p : ProgramShape) (order : List Ticket) (h : ℕ)
    → AllByRecursion (λ s. length (part h s.trace) ≤ load_of (text_of p s.ticket).body h) (serial p order).places
