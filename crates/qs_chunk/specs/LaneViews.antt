-- One lane in one block, as its client and its handler see it.
use Rattle.std.specs.Prelude.{◌≡◌, Bool, true, false, List, [], ◌∷◌, ◌++◌, map}
use Rattle.std.specs.List.{AllByRecursion}
use Rattle.qs_objects.specs.audit.Journals.{HeldState, run_one}
use Rattle.qs_objects.specs.Laws.{IsCommand}
use Rattle.qs_objects.specs.audit.Parts.{IsFront, command_event}
use Rattle.qs_objects.specs.declared.Request.{Request}
use Rattle.qs_objects.specs.declared.held.Event.{Event}
use Rattle.qs_objects.specs.declared.held.Ticket.{Ticket}
use Rattle.qs_chunk.specs.audit.Runs.{ran_all}
use Rattle.qs_chunk.specs.declared.parcel.Parcel.{Parcel}
use Rattle.qs_chunk.specs.declared.parcel.Parcel.TheVariants.{Work, Sync, Home, End}

-- requests that no object answers
abbrev pub AllCommands : List Request → Type 0
AllCommands requests = AllByRecursion (λ r. IsCommand r.op) requests

-- these events under one ticket lead an object from x to y, and each reply is the object's own
abbrev pub Extends : Ticket → HeldState → List Event → HeldState → Type 0
Extends t x [] y = x ≡ y
Extends t x (e ∷ es) y = (e.reply ≡ (run_one x t e.request).1) × Extends t (run_one x t e.request).0 es y

-- how a client stands to an object in its block: requests are in the chunk in hand; it asked for the object; it holds
-- it; it has sent the end
pub data ObjectStance : Type 0 where
  sends : (chunk : List Request) → ObjectStance
  asks : ObjectStance
  holds : (held : HeldState) → ObjectStance
  gone : ObjectStance

-- what follows a Sync where nothing more was sent: the client waits, or holds the object
abbrev pub ClientAsks : Ticket → List HeldState → List Event → ObjectStance → Type 0
ClientAsks t [] events end = (events ≡ []) × (end ≡ asks)
ClientAsks t (x ∷ got) events end = (y : HeldState) × (got ≡ []) × (end ≡ holds y) × Extends t x events y

-- What a client sent and got for one object in one block, the events of its trace there, and how it stands at the end.
-- Right after a Sync (asked) the object comes, and goes home before anything else.
abbrev pub ClientLane : Ticket → Bool → List Parcel → List HeldState → List Event → ObjectStance → Type 0
ClientLane t false [] got events end =
    (chunk : List Request) × (end ≡ sends chunk) × (got ≡ []) × (events ≡ map command_event chunk) × AllCommands chunk
ClientLane t false (Work chunk ∷ sent) got events end =
    (rest : List Event) × (events ≡ map command_event chunk.items ++ rest) × AllCommands chunk.items
    × ClientLane t false sent got rest end
ClientLane t false (Sync ∷ sent) got events end = ClientLane t true sent got events end
ClientLane t false (Home x ∷ sent) got events end = ⊥
ClientLane t false (End ∷ sent) got events end = (sent ≡ []) × (got ≡ []) × (events ≡ []) × (end ≡ gone)
ClientLane t true [] got events end = ClientAsks t got events end
ClientLane t true (Home y ∷ sent) got events end =
    (x : HeldState) × (more : List HeldState) × (queried : List Event) × (rest : List Event)
    × (got ≡ x ∷ more) × (events ≡ queried ++ rest) × Extends t x queried y × ClientLane t false sent more rest end
ClientLane t true (Work chunk ∷ sent) got events end = ⊥
ClientLane t true (Sync ∷ sent) got events end = ⊥
ClientLane t true (End ∷ sent) got events end = ⊥

-- how a handler stands to the block that it serves: it has the object; it is to give it; it gave it; it has taken the
-- end
pub data Serving : Type 0 where
  serves : (held : HeldState) → Serving
  gives : (held : HeldState) → Serving
  lent : (held : HeldState) → Serving
  over : (held : HeldState) → Serving

-- what follows a Sync where nothing more was received: the handler is to give the object, or gave it
abbrev pub HandlerGives : HeldState → List HeldState → Serving → Type 0
HandlerGives x [] end = end ≡ gives x
HandlerGives x (given ∷ more) end = (given ≡ x) × (more ≡ []) × (end ≡ lent x)

-- What a handler received and gave for one ticket, from the object x on, and how it stands at the end. Right after a
-- Sync (asked) the object is given, and comes home before anything else.
abbrev pub HandlerLane : Ticket → Bool → HeldState → List Parcel → List HeldState → Serving → Type 0
HandlerLane t false x [] gave end = (gave ≡ []) × (end ≡ serves x)
HandlerLane t false x (Work chunk ∷ received) gave end = HandlerLane t false (ran_all x t chunk.items) received gave end
HandlerLane t false x (Sync ∷ received) gave end = HandlerLane t true x received gave end
HandlerLane t false x (Home y ∷ received) gave end = ⊥
HandlerLane t false x (End ∷ received) gave end = (received ≡ []) × (gave ≡ []) × (end ≡ over x)
HandlerLane t true x [] gave end = HandlerGives x gave end
HandlerLane t true x (Home y ∷ received) gave end =
    (more : List HeldState) × (gave ≡ x ∷ more) × HandlerLane t false y received more end
HandlerLane t true x (Work chunk ∷ received) gave end = ⊥
HandlerLane t true x (Sync ∷ received) gave end = ⊥
HandlerLane t true x (End ∷ received) gave end = ⊥

-- the object wherever it is: with its handler; on its way to the client; with the client; or on its way home, among
-- what the client sent and the handler has not received
abbrev pub object_of : Serving → ObjectStance → List Parcel → HeldState
object_of (serves x) client way = x
object_of (gives x) client way = x
object_of (over x) client way = x
object_of (lent x) client (Home y ∷ way) = y
object_of (lent x) (holds y) way = y
object_of (lent x) client way = x

-- a block's events at an object are those that led it from x to y, and then commands that wait
pub record IsMatched (t : Ticket) (x : HeldState) (events : List Event) (y : HeldState) : Type 0 where
  pub done : List Event
  pub waiting : List Request
  pub parts : events ≡ done ++ map command_event waiting
  pub extends : Extends t x done y
  pub commands : AllCommands waiting

-- What the client believes to have run is what ran on the object, wherever that is, and then what waits: if the handler
-- received a front of what the client sent, and the client got a front of what the handler gave.
abbrev pub LanesMatch : Type 0
LanesMatch =
    (t : Ticket) (x : HeldState) (received way : List Parcel) (got gave : List HeldState) (events : List Event)
    (client : ObjectStance) (handler : Serving)
    → ClientLane t false (received ++ way) got events client
    → HandlerLane t false x received gave handler
    → IsFront got gave
    → IsMatched t x events (object_of handler client way)
