-- States of the declared kinds: they have the operations of their object's kind, and a serial run keeps them so.
use Rattle.std.specs.Prelude.{◌≡◌, ℕ, List}
use Rattle.std.specs.List.{AllByRecursion}
use Rattle.qs_objects.specs.audit.Act.{State}
use Rattle.qs_objects.specs.audit.Objects.{kind_of}
use Rattle.qs_objects.specs.Operations.{fits}
use Rattle.qs_objects.specs.declared.Op.{Op}
use Rattle.qs_objects.specs.declared.held.Ticket.{Ticket}
use Rattle.qs_objects.specs.declared.object.Kind.{Kind}
use Rattle.qs_program.specs.audit.Program.{ProgramShape, object_at}
use Rattle.qs_program.specs.Sound.{IsSound}
use Rattle.qs_meaning.specs.Serial.{SerialBlock, serial}
use Rattle.qs_meaning.specs.audit.Solo.{States}

-- a state that has the operations of this kind, and no others
abbrev pub IsOfKind : Kind → State → Type 0
IsOfKind kind s = (op : Op) → fits op (kind_of s.content) ≡ fits op kind

abbrev pub AreOfKind : ProgramShape → States → Type 0
AreOfKind p st = (h : ℕ) → IsOfKind (object_at p h).kind (st h)

-- the states that a place of a serial run finds, and those at its end, are of the declared kinds
abbrev pub SerialKeepsKinds : Type 0
SerialKeepsKinds =
    (p : ProgramShape) → IsSound p → (order : List Ticket)
    → AllByRecursion (λ (a : SerialBlock). AreOfKind p a.starts) (serial p order).places
    × AreOfKind p (serial p order).states
