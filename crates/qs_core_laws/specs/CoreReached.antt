-- What holds of the optimised machine after every schedule, and is needed to run it.
use Rattle.std.specs.Prelude.{◌≡◌, ◌<◌, ◌≤◌, ◌==◌, ℕ, IsTrue, IsSome, List, [], ◌∷◌, length, filter, sum_by, None}
use Rattle.std.specs.List.{AllByRecursion, range_with_len}
use Rattle.qs_objects.specs.audit.Journals.{HeldState}
use Rattle.qs_objects.specs.audit.Parts.{same}
use Rattle.qs_objects.specs.declared.held.Ticket.{Ticket}
use Rattle.qs_objects.specs.declared.Request.{Request}
use Rattle.qs_program.specs.audit.Program.{ProgramShape, blocks_of}
use Rattle.qs_meaning.specs.audit.Serial.{zeros}
use Rattle.qs_syncset.specs.audit.Codes.{ClientCode, blocks_in}
use Rattle.qs_chunk.specs.audit.Batch.{Batch}
use Rattle.qs_chunk.specs.audit.Lanes.{HasSize}
use Rattle.qs_chunk.specs.Lanes.{may_stand}
use Rattle.qs_chunk.specs.declared.parcel.Parcel.{Parcel}
use Rattle.qs_handler.specs.audit.Handler.{free, closed}
use Rattle.qs_handler.specs.Handler.{is_away}
use Rattle.qs_handler.specs.audit.Handler as handlers
use Rattle.qs_handler.specs.declared.mind.Act.TheVariants as acts
use Rattle.qs_client.specs.audit.rules.Client.{act_of, first_client}
use Rattle.qs_client.specs.declared.rules.act.Act.TheVariants as wants
use Rattle.qs_played.specs.declared.schedule.actor.Actor.TheVariants as actor
use Rattle.qs_played.specs.audit.JournalRooms.{fresh_held}
use Rattle.qs_core_laws.specs.audit.Core.{Core, core_step, settings_of}
use Rattle.qs_core_laws.specs.audit.CoreSchedule.{found_by}
use Rattle.qs_core_laws.specs.CoreSchedule.{before_it}

-- what comes next in the lane that a handler takes from may stand there
abbrev pub NextStands : Core → Type 0
NextStands s =
    (c h : ℕ) (parcel : Parcel) (ps : List Parcel)
    → handlers.act_of (s.handler h) ≡ acts.TakeParcel c → s.down c h ≡ parcel ∷ ps
    → IsTrue (may_stand (is_away (s.handler h)) parcel)

-- a ticket of a block that a client of the program has begun
abbrev pub IsBegun : ProgramShape → Core → Ticket → Type 0
IsBegun p s t = (t.client < length p.clients) × (t.index < (s.client t.client).begun)

-- what a handler does next is for a client of the program
pub record HandlersServe (p : ProgramShape) (size : ℕ) (s : Core) : Type 0 where
  pub takes : (h c : ℕ) → handlers.act_of (s.handler h) ≡ acts.TakeParcel c → c < length p.clients
  pub gives : (h c : ℕ) (x : HeldState) → handlers.act_of (s.handler h) ≡ acts.Give c x → c < length p.clients
  pub spares : (h c : ℕ) (chunk : Batch Request) → handlers.act_of (s.handler h) ≡ acts.Spare c chunk
      → (c < length p.clients) × (chunk.capacity ≡ size)
  pub opened : (h : ℕ) (x : HeldState) → s.handler h ≡ closed x → ⊥

-- what a client does next is for an object of the program
pub record ClientsAsk (p : ProgramShape) (code : ℕ → ClientCode) (size : ℕ) (s : Core) : Type 0 where
  pub sends : (c h : ℕ) (parcel : Parcel)
      → act_of (settings_of code size c) (blocks_in code c) (s.client c) ≡ wants.Send h parcel → h < length p.objects
  pub awaits : (c h : ℕ) → act_of (settings_of code size c) (blocks_in code c) (s.client c) ≡ wants.Await h
      → h < length p.objects
  pub needs : (c h : ℕ) → act_of (settings_of code size c) (blocks_in code c) (s.client c) ≡ wants.NeedChunk h
      → h < length p.objects

-- the blocks that were begun, and their tickets
pub record TicketsStand (p : ProgramShape) (s : Core) : Type 0 where
  pub begun : (c : ℕ) → (s.client c).begun ≤ blocks_of p c
  pub order : AllByRecursion (IsBegun p s) s.order
  pub before : (h : ℕ) → AllByRecursion (IsBegun p s) (before_it s h)
  -- a client's tickets in the order are as many as it has begun
  pub counted : (c : ℕ) → length (filter (λ (t : Ticket). t.client == c) s.order) ≡ (s.client c).begun
  -- before a handler no ticket stands twice
  pub once : (h : ℕ) (t : Ticket) → length (filter (same t) (before_it s h)) ≤ 1
  pub few : (h : ℕ) → length (before_it s h) ≤ sum_by (blocks_of p) (range_with_len 0 (length p.clients))
  pub fresh : (t : Ticket) → (s.client t.client).begun ≤ t.index → (s.entry t ≡ []) × (s.trace t ≡ [])

-- beyond the program nothing happens
pub record OthersRest (p : ProgramShape) (code : ℕ → ClientCode) (size : ℕ) (s : Core) : Type 0 where
  pub tickets : (h : ℕ) → length p.objects ≤ h → s.tickets h ≡ []
  pub handler : (h : ℕ) → length p.objects ≤ h → s.handler h ≡ free (fresh_held p h)
  pub client : (c : ℕ) → length p.clients ≤ c → s.client c ≡ first_client zeros
  pub steps : (c : ℕ) → length p.clients ≤ c → core_step code size s (actor.Client c) ≡ None

pub record CoreStands (p : ProgramShape) (code : ℕ → ClientCode) (size : ℕ) (s : Core) : Type 0 where
  pub next : NextStands s
  pub sizes : (c h : ℕ) → AllByRecursion (HasSize size) (s.down c h)
  pub handlers : HandlersServe p size s
  pub clients : ClientsAsk p code size s
  pub tickets : TicketsStand p s
  pub others : OthersRest p code size s
  -- each object is somewhere
  pub found : (h : ℕ) → IsSome (found_by s h (s.handler h))

-- It does not unfold by itself: a proof that wants one of its parts says so, and the others are spared them.
unfoldable pub ReachedCore : ProgramShape → (ℕ → ClientCode) → ℕ → Core → Type 0
ReachedCore p code size s = CoreStands p code size s
