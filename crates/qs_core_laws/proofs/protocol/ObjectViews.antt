-- What is kept of one object in the optimised machine: its handler with the lanes, and what both ends of each lane did.
use Rattle.std.proofs.Common.{◌≡◌, ◌<◌, ℕ, false, ◌==◌, List, [], ◌∷◌, ◌++◌, filter, flat_map, Option, Some, None}
use Rattle.qs_played.proofs.Names.{AllByRecursion, HeldState, IsFront, Event, Ticket, Among}
use Rattle.qs_core_laws.proofs.Names.{ObjectStance, gone, Serving, ClientLane, HandlerLane, Parcel, Handler, free, serves, spares, gives, away, closed, serving}
use Rattle.qs_chunk.specs.LaneViews as views

-- how a handler stands to its ticket, where it gave the object `lent` last
abbrev pub stance : Handler → HeldState → Serving
stance (free x) lent = views.over x
stance (serves t x) lent = views.serves x
stance (spares t x n) lent = views.serves x
stance (gives t x) lent = views.gives x
stance (away t) lent = views.lent lent
stance (closed x) lent = views.over x

-- an object on its way, as a list
abbrev pub as_list : Option HeldState → List HeldState
as_list None = []
as_list (Some x) = x ∷ []

-- a client's tickets come in the order of their numbers
abbrev pub Rising : List Ticket → Type 0
Rising [] = Unit {0}
Rising (u ∷ us) = AllByRecursion (λ (v : Ticket). u.client ≡ v.client → u.index < v.index) us × Rising us

-- these tickets were served whole, one after another
abbrev pub PastOf : (Ticket → List Parcel) → (Ticket → List HeldState) → HeldState → List Ticket → HeldState → Type 0
PastOf sent got x [] z = x ≡ z
PastOf sent got x (t ∷ ts) z =
    (m : HeldState) × (gave : List HeldState) × HandlerLane t false x (sent t) gave (views.over m) × IsFront (got t) gave × PastOf sent got m ts z

-- the handler and its lanes
pub record ObjectView : Type 0 where
  pub handler : Handler
  pub tickets : List Ticket
  pub down : ℕ → List Parcel
  pub up : ℕ → List HeldState

-- what the clients did, ticket by ticket
pub record ClientLog : Type 0 where
  pub sent : Ticket → List Parcel
  pub got : Ticket → List HeldState
  pub events : Ticket → List Event
  pub stands : Ticket → ObjectStance

-- what the handler did, ticket by ticket, and what is on the way; the object that it gave last; those that it has
-- served, and the object that the next one found
pub record HandlerLog : Type 0 where
  pub received : Ticket → List Parcel
  pub way : Ticket → List Parcel
  pub gave : Ticket → List HeldState
  pub lent : HeldState
  pub past : List Ticket
  pub found : HeldState

abbrev pub ahead : ObjectView → List Ticket
ahead b = serving b.handler ++ b.tickets

pub record IsObject (mine : List Ticket) (x : HeldState) (b : ObjectView) (y : ClientLog) (g : HandlerLog) : Type 0 where
  pub split : mine ≡ g.past ++ ahead b
  pub served : PastOf y.sent y.got x g.past g.found
  pub free : (z : HeldState) → b.handler ≡ free z → z ≡ g.found
  pub opened : (z : HeldState) → b.handler ≡ closed z → ⊥
  pub sent : AllByRecursion (λ t. y.sent t ≡ g.received t ++ g.way t) (ahead b)
  pub lane : AllByRecursion (λ t. HandlerLane t false g.found (g.received t) (g.gave t) (stance b.handler g.lent)) (serving b.handler)
  pub gots : AllByRecursion (λ (t : Ticket). g.gave t ≡ y.got t ++ b.up t.client) (serving b.handler)
  pub later : AllByRecursion (λ t. (y.got t ≡ []) × (g.received t ≡ [])) b.tickets
  pub down : (c : ℕ) → b.down c ≡ flat_map g.way (filter (λ (t : Ticket). t.client == c) (ahead b))
  pub up : (c : ℕ) → AllByRecursion (λ (t : Ticket). (t.client == c) ≡ false) (serving b.handler) → b.up c ≡ []
  pub rising : Rising (ahead b)

-- each lane keeps its rules, and an older ticket of a client has sent its end
pub record IsClientLog (q : List Ticket) (y : ClientLog) : Type 0 where
  pub lane : AllByRecursion (λ t. ClientLane t false (y.sent t) (y.got t) (y.events t) (y.stands t)) q
  pub older : (t u : Ticket) → Among t q → Among u q → t.client ≡ u.client → t.index < u.index → y.stands t ≡ gone
