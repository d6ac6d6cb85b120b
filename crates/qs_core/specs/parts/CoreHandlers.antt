-- A handler of the optimised machine in the code: its mind with its pending act, and its queue of tickets.
use Rattle.std.specs.Prelude.{Bool, true, false, ◌&&◌, length, nat_eq, ◌≡◌, ◌<◌, ℕ, List, [], ◌∷◌, ◌++◌, nat_lt, IsTrue, if◌then◌else◌, slice_index_or, slice_set, Option, Some, None}
use Rattle.qs_objects.specs.audit.Journals.{HeldState}
use Rattle.qs_objects.specs.declared.held.Ticket.{Ticket}
use Rattle.qs_objects.specs.declared.held.Next.TheVariants as nexts
use Rattle.qs_meaning.specs.audit.Serial.{no_state}
use Rattle.qs_chunk.specs.Lanes.{may_stand}
use Rattle.qs_chunk.specs.audit.Limits.{spare_room}
use Rattle.qs_chunk.specs.declared.parcel.Parcel.{Parcel}
use Rattle.qs_handler.specs.declared.mind.Act.{Act}
use Rattle.qs_handler.specs.audit.Handler.{is_free, Handler, act_of, free, gave, accept_parcel, accept_next}
use Rattle.qs_handler.specs.Handler.{is_away, with_act}
use Rattle.qs_handler.specs.declared.mind.Act.TheVariants as acts
use Rattle.qs_core.specs.parts.LaneStates.{LaneState, with_down, with_spare, with_up}

-- a handler that waits takes a ticket next
abbrev pub takes_ticket : Act → Bool
takes_ticket acts.TakeTicket = true
takes_ticket (acts.TakeParcel c) = false
takes_ticket (acts.Give c x) = false
takes_ticket (acts.Spare c chunk) = false
takes_ticket acts.Closed = false

-- its mind, the act that the mind handed out last, its queue of tickets, and how many of them there may be
pub record CoreHandlerState : Type 0 where
  pub mind : Handler
  pub act : Act
  pub tickets : List Ticket
  pub room : ℕ

abbrev pub handler_with : Handler → List Ticket → ℕ → CoreHandlerState
handler_with h ts room = record { mind = gave h; act = act_of h; tickets = ts; room = room }

-- the handler with what the act carries
abbrev pub handler_with_act : CoreHandlerState → Handler
handler_with_act s = with_act s.mind s.act

-- a handler serves nobody and has no ticket
abbrev pub is_waiting : CoreHandlerState → Bool
is_waiting s = is_free (handler_with_act s) && nat_eq (length s.tickets) 0

-- the act is the next one of the handler, and the mind is without what it carries
pub record IsCoreHandler (s : CoreHandlerState) : Type 0 where
  pub act : s.act ≡ act_of (handler_with_act s)
  pub mind : s.mind ≡ gave (handler_with_act s)

-- with a ticket at the end of its queue
abbrev pub with_ticket : Ticket → CoreHandlerState → CoreHandlerState
with_ticket t s = record { mind = s.mind; act = s.act; tickets = s.tickets ++ t ∷ []; room = s.room }

-- the client whose lane it turns to
abbrev pub turns_to : Act → Option ℕ
turns_to acts.TakeTicket = None
turns_to (acts.TakeParcel c) = Some c
turns_to (acts.Give c x) = Some c
turns_to (acts.Spare c chunk) = Some c
turns_to acts.Closed = None

abbrev pub beside : LaneState → Option Handler → Option (Handler × LaneState)
beside l None = None
beside l (Some h) = Some (h, l)

abbrev pub takes_first : Handler → LaneState → List Parcel → Option (Handler × LaneState)
takes_first h l [] = None
takes_first h l (p ∷ ps) = beside (with_down l ps) (accept_parcel h p)

abbrev pub gives_up : Handler → HeldState → LaneState → Option HeldState → Option (Handler × LaneState)
gives_up h x l None = Some (gave h, with_up l (Some x))
gives_up h x l (Some y) = None

-- what it does at that lane: the handler and the lane after it, where it can step
abbrev pub lane_step_of_handler : Handler → Act → LaneState → Option (Handler × LaneState)
lane_step_of_handler h acts.TakeTicket l = None
lane_step_of_handler h (acts.TakeParcel c) l = takes_first h l l.down
lane_step_of_handler h (acts.Give c x) l = gives_up h x l l.up
lane_step_of_handler h (acts.Spare c chunk) l =
    if nat_lt (length l.spare) spare_room then Some (gave h, with_spare l (l.spare ++ chunk ∷ [])) else None
lane_step_of_handler h acts.Closed l = None

-- it came to this by a step at a lane
abbrev pub LaneSteps : CoreHandlerState → LaneState → CoreHandlerState → LaneState → Type 0
LaneSteps old l new k =
    (h : Handler) × (lane_step_of_handler (handler_with_act old) old.act l ≡ Some (h, k))
    × (new ≡ handler_with h old.tickets old.room)

-- it took the first ticket of its queue
abbrev pub TakesTicket : CoreHandlerState → CoreHandlerState → Type 0
TakesTicket old new =
    (t : Ticket) × (ts : List Ticket) × (h : Handler)
    × (old.tickets ≡ t ∷ ts) × (accept_next (handler_with_act old) (nexts.Ticket t) ≡ Some h)
    × (new ≡ handler_with h ts old.room)

-- a parcel that comes to it may stand there
abbrev pub MayCome : CoreHandlerState → LaneState → Type 0
MayCome s l =
    (c : ℕ) (p : Parcel) (ps : List Parcel) → s.act ≡ acts.TakeParcel c → l.down ≡ p ∷ ps
    → IsTrue (may_stand (is_away (handler_with_act s)) p)

-- no handler
abbrev pub no_core_handler : CoreHandlerState
no_core_handler = handler_with (free (record { object = no_state; journal = []; room = 0 })) [] 0

abbrev pub core_handler_at : List CoreHandlerState → ℕ → CoreHandlerState
core_handler_at hs h = slice_index_or hs h no_core_handler

-- one handler has one more ticket, and each handler of a list
abbrev pub with_ticket_at : Ticket → List CoreHandlerState → ℕ → List CoreHandlerState
with_ticket_at t hs h = slice_set hs h (with_ticket t (core_handler_at hs h))

abbrev pub with_ticket_at_all : Ticket → List CoreHandlerState → List ℕ → List CoreHandlerState
with_ticket_at_all t hs [] = hs
with_ticket_at_all t hs (h ∷ rest) = with_ticket_at_all t (with_ticket_at t hs h) rest

-- there are these handlers, and each has room for one more ticket
abbrev pub CanEnterAll : Ticket → List CoreHandlerState → List ℕ → Type 0
CanEnterAll t hs [] = Unit {0}
CanEnterAll t hs (h ∷ rest) =
    (h < length hs) × (length (core_handler_at hs h).tickets < (core_handler_at hs h).room)
    × CanEnterAll t (with_ticket_at t hs h) rest
