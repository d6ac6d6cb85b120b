-- Beside what the headline reaches (`audit/Serial.antt`): what else contracts and proofs use.
use Rattle.std.specs.Prelude.{ℕ, List, [], ◌∷◌}
use Rattle.qs_objects.specs.declared.held.Event.{Event}
use Rattle.qs_objects.specs.declared.held.Ticket.{Ticket}
use Rattle.qs_program.specs.audit.Values.{Locals}
use Rattle.qs_meaning.specs.audit.Solo.{States, put, solo}
use Rattle.qs_program.specs.audit.Program.{ProgramShape, text_of}
use Rattle.qs_meaning.specs.audit.Serial.{declared_states, zeros}

-- a place of the order: the ticket, its client's variables and the states that it found, and what its block did
pub record SerialBlock : Type 0 where
  pub ticket : Ticket
  pub entry : Locals
  pub starts : States
  pub trace : List Event

pub record Serial : Type 0 where
  pub places : List SerialBlock
  pub locals : ℕ → Locals
  pub states : States

abbrev pub with_serial_block : SerialBlock → Serial → Serial
with_serial_block p s = record { places = p ∷ s.places; locals = s.locals; states = s.states }

-- the blocks of an order, each whole, one after another, from these variables and states
abbrev pub serial_from : ProgramShape → (ℕ → Locals) → States → List Ticket → Serial
serial_from p ls st [] = record { places = []; locals = ls; states = st }
serial_from p ls st (t ∷ ts) =
    let o = solo (text_of p t).body (ls t.client) st in
    with_serial_block (record { ticket = t; entry = ls t.client; starts = st; trace = o.trace })
    (serial_from p (put ls t.client o.locals) o.states ts)

abbrev pub serial : ProgramShape → List Ticket → Serial
serial p order = serial_from p (λ _. zeros) (declared_states p) order
