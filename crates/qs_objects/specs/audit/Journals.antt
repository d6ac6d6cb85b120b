-- Objects with their journals.
use Rattle.std.specs.Prelude.{◌≡◌, ℕ, Bool, nat_lt, List, [], ◌∷◌, ◌++◌, length, map, Option, None, ℤ, if◌then◌else◌}
use Rattle.qs_objects.specs.audit.Act.{State, act, ActResult}
use Rattle.qs_objects.specs.declared.held.Entry.{Entry}
use Rattle.qs_objects.specs.declared.held.Event.{Event}
use Rattle.qs_objects.specs.declared.held.Ticket.{Ticket}
use Rattle.qs_objects.specs.declared.Request.{Request}

-- the state after a request
abbrev pub after : State → Request → State
after s r = (act s r.op r.args).0

-- the reply to a request
abbrev pub answer : State → Request → Option ℤ
answer s r = (act s r.op r.args).1

-- an entry without its ticket
abbrev pub unstamp : Entry → Event
unstamp e = record { request = e.request; reply = e.reply }

-- a journal as a list of events
abbrev pub without_tickets : List Entry → List Event
without_tickets j = map unstamp j

-- the state that events leave from a start
abbrev pub replay : State → List Event → State
replay s [] = s
replay s (e ∷ es) = replay (after s e.request) es

-- each reply is the object's own at its place
abbrev pub IsHonest : State → List Event → Type 0
IsHonest s [] = Unit {0}
IsHonest s (e ∷ es) = (e.reply ≡ answer s e.request) × IsHonest (after s e.request) es

-- an object, its journal, and how many entries the journal has room for
pub record HeldState : Type 0 where
  pub object : State
  pub journal : List Entry
  pub room : ℕ

-- room for one more entry
abbrev pub has_room : HeldState → Bool
has_room h = nat_lt (length h.journal) h.room

-- what serving a request gives, with its entry at the journal's end
abbrev pub with_entry : HeldState → Ticket → Request → ActResult → HeldState × Option ℤ
with_entry h t r o =
    let entry : Entry = record { ticket = t; request = r; reply = o.1 } in
    (record { object = o.0; journal = h.journal ++ entry ∷ []; room = h.room }, o.1)

-- the request served and noted; nothing where there is no room
abbrev pub run_one : HeldState → Ticket → Request → HeldState × Option ℤ
run_one h t r = if has_room h then with_entry h t r (act h.object r.op r.args) else (h, None)
