-- What a worker begins with and what it gives back, and all workers of a program before and after a run. A worker is a
-- client or a handler with what its thread needs: a client has its mind and its share of the desk, a handler its object
-- and its queue of tickets, and both have their ends of lanes.
use Rattle.std.specs.Prelude.{◌≡◌, ◌<◌, ℕ, Bool, true, false, List, [], length, Option, Some, None, IsSome, Result, Ok, Err, slice_get}
use Rattle.std.specs.List.{AllZip}
use Rattle.qs_objects.specs.audit.Journals.{HeldState}
use Rattle.qs_objects.specs.declared.held.Ticket.{Ticket}
use Rattle.qs_program.specs.audit.Limits.{most_clients}
use Rattle.qs_program.specs.audit.Program.{ProgramShape, blocks_of}
use Rattle.qs_program.specs.Sound.{IsSound}
use Rattle.qs_meaning.specs.audit.Following.{reserves}
use Rattle.qs_syncset.specs.audit.Codes.{IsCodeOf}
use Rattle.qs_syncset.specs.declared.mode.Mode.{Mode}
use Rattle.qs_handler.specs.audit.Handler.{closed}
use Rattle.qs_handler.specs.audit.HandlerRuns.{Task}
use Rattle.qs_run.specs.handler.HandlerThreads as handling
use Rattle.qs_client.specs.audit.ClientRuns.{Deed, RunsTo}
use Rattle.qs_client.specs.audit.ClientModel.{fresh_mind}
use Rattle.qs_client.specs.MindState.{MindState, mind_of}
use Rattle.qs_run.specs.client.ClientThreads as running
use Rattle.qs_played.specs.audit.JournalRooms.{fresh_held}
use Rattle.qs_desk.specs.Tickets.{ticket}
use Rattle.qs_lane.specs.Views.{InView, OutView}
use Rattle.qs_run.specs.declared.worker.ClientWorker.{ClientWorker}
use Rattle.qs_run.specs.declared.worker.HandlerWorker.{HandlerWorker}

-- A worker's thread that was let go has done its work, and one that was not gives its worker back as it was.
abbrev pub HasFollowed : {V W : Type 0} → (V → W → Type 0) → (go : Bool) → V → Result W V → Type 0
HasFollowed HasWorked go before (Ok after) = (go ≡ true) × HasWorked before after
HasFollowed HasWorked go before (Err after) = (go ≡ false) × (after ≡ before)

-- The list has n members, and P holds of each at its place.
pub record IsListOf {X : Type 0} (n : ℕ) (P : ℕ → X → Type 0) (xs : List X) : Type 0 where
  pub many : length xs ≡ n
  pub each : (i : ℕ) (x : X) → slice_get xs i ≡ Some x → P i x

-- The object of handler h is as declared.
abbrev pub IsObjectAtStart : ProgramShape → ℕ → HeldState → Type 0
IsObjectAtStart p h x = x ≡ fresh_held p h

-- The mind of client c before its first block: it has the code of that client's blocks in this mode, and chunks of this
-- size.
pub record IsMindAtStart (p : ProgramShape) (mode : Mode) (size : ℕ) (c : ℕ) (m : MindState) : Type 0 where
  pub code : IsCodeOf p mode c (mind_of m).code
  pub begins : mind_of m ≡ fresh_mind (mind_of m).code size

-- These are the two ends of one lane, or there is no lane.
abbrev pub AreOneLane : Option OutView → Option InView → Type 0
AreOneLane None None = Unit {0}
AreOneLane None (Some inside) = ⊥
AreOneLane (Some out) None = ⊥
AreOneLane (Some out) (Some inside) = out.name ≡ inside.name

module _ {D : Type 0} where
  -- The worker is handler h of the program, and its object is as declared.
  pub record IsHandlerAtStart (p : ProgramShape) (h : ℕ) (w : HandlerWorker D) : Type 0 where
    pub number : w.tickets.handler ≡ h
    pub object : IsObjectAtStart p h w.held

  -- The worker is client c of the program, and its mind is as before its first block.
  pub record IsClientAtStart (p : ProgramShape) (mode : Mode) (size : ℕ) (c : ℕ) (w : ClientWorker D) : Type 0 where
    pub number : w.share.client ≡ c
    pub mind : IsMindAtStart p mode size c w.mind

  -- The handler's thread may start: no ticket is taken, nothing has passed in its lanes, and it has a lane from each
  -- client of which a block reserves it.
  pub record IsHandlerReady (p : ProgramShape) (w : HandlerWorker D) : Type 0 where
    pub taken : w.tickets.taken ≡ []
    pub fresh : (c : ℕ) → handling.IsFresh (handling.in_lane_at w.lanes c)
    pub reached : (t : Ticket) → reserves p t w.tickets.handler ≡ true
        → (t.client < most_clients) × IsSome (handling.in_lane_at w.lanes t.client)

  -- The client's thread may start: no block is booked, nothing has passed in its lanes, and it has a lane to each
  -- handler that one of its blocks reserves.
  pub record IsClientReady (p : ProgramShape) (w : ClientWorker D) : Type 0 where
    pub sound : IsSound p
    pub code : (mode : Mode) × IsCodeOf p mode w.share.client (mind_of w.mind).code
    pub begins : mind_of w.mind ≡ fresh_mind (mind_of w.mind).code (mind_of w.mind).size
    pub unbooked : w.share.count ≡ 0
    pub fresh : (h : ℕ) → running.IsFresh (mind_of w.mind).size (running.out_lane_at w.lanes h)
    pub reached : (k h : ℕ) → k < blocks_of p w.share.client → reserves p (ticket w.share.client k) h ≡ true
        → IsSome (running.out_lane_at w.lanes h)

  -- The handler has done its tasks, from the worker before to the worker after.
  pub record HandlerHasServed (p : ProgramShape) (before after : HandlerWorker D) : Type 0 where
    pub tasks : List Task
    pub served : handling.IsServing p before.tickets.handler before.held before.lanes tasks (closed after.held)
        after.tickets after.lanes

  -- The client has done its deeds, from the worker before to the worker after.
  pub record ClientHasRun (before after : ClientWorker D) : Type 0 where
    pub deeds : List Deed
    pub ran : RunsTo before.share.client (mind_of before.mind) deeds (mind_of after.mind)
    pub done : running.AreDone before.share.client before.lanes deeds after.share after.lanes

  -- All workers of a program before a run: one for each handler and one for each client, in their order, each of them
  -- ready, and their ends of lanes belong together in pairs.
  pub record AreReady (p : ProgramShape) (mode : Mode) (size : ℕ) (handlers : List (HandlerWorker D))
      (clients : List (ClientWorker D)) : Type 0 where
    pub all_handlers : IsListOf (length p.objects) (λ h w. IsHandlerAtStart p h w × IsHandlerReady p w) handlers
    pub all_clients : IsListOf (length p.clients) (λ c w. IsClientAtStart p mode size c w × IsClientReady p w) clients
    pub lanes : (c h : ℕ) (w : ClientWorker D) (v : HandlerWorker D) → slice_get clients c ≡ Some w
        → slice_get handlers h ≡ Some v
        → AreOneLane (running.out_lane_at w.lanes h) (handling.in_lane_at v.lanes c)

  -- All workers of a program after a run: they were ready before it, and each handler has served and each client has
  -- run from there on.
  pub record HaveRun (p : ProgramShape) (mode : Mode) (size : ℕ) (handlers : List (HandlerWorker D))
      (clients : List (ClientWorker D)) : Type 0 where
    pub before_handlers : List (HandlerWorker D)
    pub before_clients : List (ClientWorker D)
    pub ready : AreReady p mode size before_handlers before_clients
    pub served : AllZip (HandlerHasServed p) before_handlers handlers
    pub ran : AllZip ClientHasRun before_clients clients
