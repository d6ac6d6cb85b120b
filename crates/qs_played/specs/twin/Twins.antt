-- Two blocks of two runs, of one program or of two, that are to do the same.
use Rattle.std.specs.Prelude.{◌≡◌, ◌<◌, ℕ, List, [], length, min, slice_index_or, Option, Some, None, take}
use Rattle.qs_objects.specs.audit.Act.{State}
use Rattle.qs_objects.specs.audit.Journals.{replay, without_tickets}
use Rattle.qs_objects.specs.Parts.{HasEntry, before}
use Rattle.qs_objects.specs.declared.Request.{Request}
use Rattle.qs_objects.specs.declared.held.Entry.{Entry}
use Rattle.qs_objects.specs.declared.held.Ticket.{Ticket}
use Rattle.qs_program.specs.audit.Numbering.{Name}
use Rattle.qs_program.specs.audit.Program.{ProgramShape, blocks_of}
use Rattle.qs_program.specs.audit.Values.{Locals}
use Rattle.qs_meaning.specs.Alike.{SameText, SameTrace, SameValues, object_name, value_at}
use Rattle.qs_meaning.specs.audit.Serial.{declared_states}
use Rattle.qs_played.specs.audit.Isolation.{journal_of, ticket_at, trace_of}
use Rattle.qs_played.specs.Isolation.{IsFitting, IsIsolated, entry_of}
use Rattle.qs_played.specs.audit.Played.{Played}
use Rattle.qs_played.specs.declared.twin.answer.Twin.{Twin}
use Rattle.qs_played.specs.declared.twin.answer.Twin.TheVariants as answers

-- objects of one name
abbrev pub SameObjects : ProgramShape → ProgramShape → ℕ → ℕ → Type 0
SameObjects p q h g = object_name p h ≡ object_name q g

-- variables of one name and of equal values
abbrev pub SameVariables : List Name → List Name → Locals → Locals → ℕ → ℕ → Type 0
SameVariables ns ms l k x y = (slice_index_or ns x [] ≡ slice_index_or ms y []) × (value_at l x ≡ value_at k y)

-- the state in which a ticket with an entry in a journal found the object that began in this one
abbrev pub found_by : State → Ticket → List Entry → State
found_by s t j = replay s (without_tickets (before t j))

-- the state in which the i-th reservation found an object on which it has an entry
abbrev pub start_of : ProgramShape → Played → ℕ → ℕ → State
start_of p r i h = found_by (declared_states p h) (ticket_at r i) (journal_of r h)

-- the state in which a ticket found an object, where it has an entry in the journal
abbrev pub IsStart : State → Ticket → List Entry → Option State → Type 0
IsStart s t j None = HasEntry t j → ⊥
IsStart s t j (Some x) = HasEntry t j × (x ≡ found_by s t j)

abbrev pub HasEntryOn : Played → ℕ → ℕ → Type 0
HasEntryOn r i h = HasEntry (ticket_at r i) (journal_of r h)

-- a reservation of a run that fits its program, of a block of the program
pub record IsReserved (p : ProgramShape) (r : Played) (i : ℕ) : Type 0 where
  pub fits : IsFitting p r
  pub place : i < length r.order
  pub client : (ticket_at r i).client < length p.clients
  pub block : (ticket_at r i).index < blocks_of p (ticket_at r i).client

-- the i-th reservation of a run r of program p, and the j-th of a run s of program q
module _ (p : ProgramShape) (r : Played) (i : ℕ) (q : ProgramShape) (s : Played) (j : ℕ) where
  -- an object of the one program and one of the other: if they have one name, and both reservations have an entry, then
  -- both found one state
  abbrev pub StartsAlike : ℕ → ℕ → Type 0
  StartsAlike h g = SameObjects p q h g → HasEntryOn r i h → HasEntryOn s j g → start_of p r i h ≡ start_of q s j g

  -- the blocks' texts are equal, with equal values at entry
  abbrev pub TextsAlike : Type 0
  TextsAlike =
      SameText p q (ticket_at r i) (ticket_at s j)
      × SameValues p q (ticket_at r i) (ticket_at s j) (entry_of r i) (entry_of s j)

  -- The blocks' texts are equal; each variable that they name had the same value at entry; and each object on which
  -- both journals have an entry was found in the same state by both.
  pub record Agreement : Type 0 where
    pub text : SameText p q (ticket_at r i) (ticket_at s j)
    pub values : SameValues p q (ticket_at r i) (ticket_at s j) (entry_of r i) (entry_of s j)
    pub starts : (h g : ℕ) → StartsAlike h g

  -- the length of the shorter trace
  abbrev pub shorter : ℕ
  shorter = min (length (trace_of r i)) (length (trace_of s j))

  -- the first events of both traces, as many, are equal, name by name, if both runs are isolated
  abbrev pub AreFrontsEqual : ℕ → Type 0
  AreFrontsEqual n =
      (waits later : ℕ → Ticket → List Request) → IsIsolated p r waits → IsIsolated q s later
      → SameTrace p q (take n (trace_of r i)) (take n (trace_of s j))

  -- what an answer says: no agreement; or an agreement, and as many equal events as the shorter trace has
  abbrev pub Tells : Twin → Type 0
  Tells answers.Different = Agreement → ⊥
  Tells (answers.Agree n) = Agreement × (n ≡ shorter) × AreFrontsEqual n
