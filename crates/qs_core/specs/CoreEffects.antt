-- What a step of the optimised machine does.
use Rattle.std.specs.Prelude.{◌≡◌, ℕ, ◌-◌, length, List, [], ◌∷◌, Option, Some, None}
use Rattle.qs_objects.specs.declared.held.Ticket.{Ticket}
use Rattle.qs_objects.specs.declared.Request.{Request}
use Rattle.qs_syncset.specs.audit.Codes.{ClientCode, blocks_in}
use Rattle.qs_chunk.specs.declared.parcel.Parcel.{Parcel}
use Rattle.qs_chunk.specs.declared.parcel.Parcel.TheVariants.{Work, Sync, Home, End}
use Rattle.qs_handler.specs.audit.Handler.{Handler, free, serves, spares, gives, away, closed}
use Rattle.qs_client.specs.audit.rules.Client.{act_of}
use Rattle.qs_client.specs.declared.rules.act.Act.{Act}
use Rattle.qs_client.specs.declared.rules.act.Act.TheVariants as wants
use Rattle.qs_played.specs.audit.Played.{ticket}
use Rattle.qs_played.specs.declared.schedule.actor.Actor.{Actor}
use Rattle.qs_played.specs.declared.schedule.actor.Actor.TheVariants as actor
use Rattle.qs_core_laws.specs.audit.Core.{Core, settings_of}
use Rattle.qs_core.specs.parts.CarriedRequests.{first_requests, sent_requests}
use Rattle.qs_core.specs.parts.LaneStates.{LaneState, lane_at}
use Rattle.qs_core.specs.declared.core_effect.CoreEffect.{CoreEffect}
use Rattle.qs_core.specs.declared.core_effect.CoreEffect.TheVariants.{Reserves, TakesChunk, Sends, WaitsFor, Gets, Returns, EndsAt, Serves, Runs, GivesChunk, SeesWaiting, GivesItself, ComesBack, Leaves}

-- a client sends the requests of a chunk, waits for the object, returns it, or ends its block there
abbrev pub effect_of_sent : Ticket → (h : ℕ) → Parcel → CoreEffect
effect_of_sent t h (Work chunk) = Sends
effect_of_sent t h Sync = WaitsFor h
effect_of_sent t h (Home x) = Returns h
effect_of_sent t h End = EndsAt t h

-- a client reserves its next block, sends a parcel, gets an object, or takes an empty chunk
abbrev pub effect_of_act : (next current : Ticket) → Act → Option CoreEffect
effect_of_act u t wants.Reserve = Some (Reserves u)
effect_of_act u t (wants.Send h parcel) = Some (effect_of_sent t h parcel)
effect_of_act u t (wants.Await h) = Some (Gets h)
effect_of_act u t (wants.NeedChunk h) = Some (TakesChunk h)
effect_of_act u t wants.Finished = None

-- by its number, how many blocks it has begun, and its act
abbrev pub effect_of_client : (c : ℕ) → (begun : ℕ) → Act → Option CoreEffect
effect_of_client c begun act = effect_of_act (ticket c begun) (ticket c (begun - 1)) act

abbrev pub effect_of_tickets : List Ticket → Option CoreEffect
effect_of_tickets [] = None
effect_of_tickets (t ∷ ts) = Some (Serves t)

-- a handler runs the requests of a chunk, sees that the client waits, has its object back, or leaves the ticket
abbrev pub effect_of_parcel : Ticket → Parcel → CoreEffect
effect_of_parcel t (Work chunk) = Runs t
effect_of_parcel t Sync = SeesWaiting t.client
effect_of_parcel t (Home x) = ComesBack t.client
effect_of_parcel t End = Leaves t

abbrev pub effect_of_lane : Ticket → List Parcel → Option CoreEffect
effect_of_lane t [] = None
effect_of_lane t (p ∷ ps) = Some (effect_of_parcel t p)

-- A handler serves the next ticket of its queue, takes a parcel of that ticket, gives an empty chunk back, or gives its
-- object. `down` are the parcels in the lane of each client to it.
abbrev pub effect_of_handler : List Ticket → (down : ℕ → List Parcel) → Handler → Option CoreEffect
effect_of_handler ts down (free x) = effect_of_tickets ts
effect_of_handler ts down (serves t x) = effect_of_lane t (down t.client)
effect_of_handler ts down (spares t x n) = Some (GivesChunk t.client)
effect_of_handler ts down (gives t x) = Some (GivesItself t.client)
effect_of_handler ts down (away t) = effect_of_lane t (down t.client)
effect_of_handler ts down (closed x) = None

-- the requests of the chunk that a handler takes
abbrev pub requests_of_handler : (down : ℕ → List Parcel) → Handler → List Request
requests_of_handler down (free x) = []
requests_of_handler down (serves t x) = first_requests (down t.client)
requests_of_handler down (spares t x n) = []
requests_of_handler down (gives t x) = []
requests_of_handler down (away t) = first_requests (down t.client)
requests_of_handler down (closed x) = []

-- a lane's parcels, the object on its way up, and how many empty chunks lie ready, are those of the lane from client c
-- to handler h
pub record IsLaneOf (s : Core) (c h : ℕ) (lane : LaneState) : Type 0 where
  pub down : lane.down ≡ s.down c h
  pub up : lane.up ≡ s.up c h
  pub spare : length lane.spare ≡ s.spare c h

abbrev pub AreLanesOf : Core → (c : ℕ) → List LaneState → Type 0
AreLanesOf s c lanes = (h : ℕ) → IsLaneOf s c h (lane_at lanes h)

module _ (code : ℕ → ClientCode) (size : ℕ) where
  -- what a client wants next
  abbrev pub act_at : Core → ℕ → Act
  act_at s c = act_of (settings_of code size c) (blocks_in code c) (s.client c)

  -- what an actor does, if it steps from this state
  abbrev pub core_effect : Core → Actor → Option CoreEffect
  core_effect s (actor.Client c) = effect_of_client c (s.client c).begun (act_at s c)
  core_effect s (actor.Handler h) = effect_of_handler (s.tickets h) (λ c. s.down c h) (s.handler h)

  -- and the requests of the chunk that it sends or runs then
  abbrev pub core_requests : Core → Actor → List Request
  core_requests s (actor.Client c) = sent_requests (act_at s c)
  core_requests s (actor.Handler h) = requests_of_handler (λ c. s.down c h) (s.handler h)
