-- What a run begins with: minds, objects as declared and lanes, and then the workers that are made of them.
use Rattle.std.specs.Prelude.{◌≡◌, ℕ, Bool, List, [], Option, None, is_some, length, slice_index_or}
use Rattle.std.specs.List.{list_any}
use Rattle.qs_program.specs.audit.Program.{BlockShape, ProgramShape, client_at}
use Rattle.qs_program.specs.audit.Sound.{is_in}
use Rattle.qs_syncset.specs.declared.mode.Mode.{Mode}
use Rattle.qs_run.specs.client.ClientThreads as running
use Rattle.qs_run.specs.handler.HandlerThreads as handling
use Rattle.qs_lane.specs.Views.{InView, OutView}
use Rattle.qs_run.specs.Workers.{AreOneLane, IsClientAtStart, IsClientReady, IsHandlerAtStart, IsHandlerReady, IsListOf, IsMindAtStart, IsObjectAtStart}
use Rattle.qs_run.specs.declared.prepare.parts.RunParts.{RunParts}
use Rattle.qs_run.specs.declared.worker.ClientWorker.{ClientWorker}
use Rattle.qs_run.specs.declared.worker.HandlerWorker.{HandlerWorker}

-- whether some block of a client reserves a handler
abbrev pub ever_reserves : ProgramShape → ℕ → ℕ → Bool
ever_reserves p c h = list_any (λ (b : BlockShape). is_in b.reserved h) (client_at p c).blocks

-- the end of a lane at a place of a row, where rows of ends are kept
abbrev pub lane_end_at : {T : Type 0} → List (List (Option T)) → ℕ → ℕ → Option T
lane_end_at rows row place = slice_index_or (slice_index_or rows row []) place None

-- the end of the lane from client c to handler h: among the rows of all clients, and among the rows of all handlers
abbrev pub out_at : List (List (Option OutView)) → ℕ → ℕ → Option OutView
out_at outs c h = lane_end_at outs c h

abbrev pub in_at : List (List (Option InView)) → ℕ → ℕ → Option InView
in_at ins c h = lane_end_at ins h c

-- A client's end of a lane is there exactly if it is wanted; nothing has passed in the lane, and its chunks have this
-- size.
pub record IsNewOut (size : ℕ) (wanted : Bool) (out : Option OutView) : Type 0 where
  pub there : is_some out ≡ wanted
  pub fresh : running.IsFresh size out

-- A handler's end of a lane is there exactly if it is wanted, and nothing has passed in the lane.
pub record IsNewIn (wanted : Bool) (inside : Option InView) : Type 0 where
  pub there : is_some inside ≡ wanted
  pub fresh : handling.IsFresh inside

-- The two ends of a new lane are there exactly if it is wanted.
pub record AreNewEnds (size : ℕ) (wanted : Bool) (out : Option OutView) (inside : Option InView) : Type 0 where
  pub sending : IsNewOut size wanted out
  pub taking : IsNewIn wanted inside
  pub one : AreOneLane out inside

-- A mind for each client and an object as declared for each handler, in their order; and between each client and each
-- handler a new lane with chunks of this size, exactly where some block of the client reserves the handler.
pub record AreRunParts (p : ProgramShape) (mode : Mode) (size : ℕ) (parts : RunParts) : Type 0 where
  pub minds : IsListOf (length p.clients) (IsMindAtStart p mode size) parts.minds.items
  pub helds : IsListOf (length p.objects) (IsObjectAtStart p) parts.helds.items
  pub outs : length parts.outs.items ≡ length p.clients
  pub ins : length parts.ins.items ≡ length p.objects
  pub lane : (c h : ℕ) → AreNewEnds size (ever_reserves p c h) (out_at parts.outs.items c h) (in_at parts.ins.items c h)

module _ {D : Type 0} where
  -- The worker of handler h is ready, and has that handler's row of the ends of lanes.
  pub record IsHandlerOf (p : ProgramShape) (ins : List (List (Option InView))) (h : ℕ)
      (w : HandlerWorker D) : Type 0 where
    pub own : IsHandlerAtStart p h w
    pub row : w.lanes ≡ slice_index_or ins h []
    pub ready : IsHandlerReady p w

  -- The worker of client c is ready, and has that client's row of the ends of lanes.
  pub record IsClientOf (p : ProgramShape) (mode : Mode) (size : ℕ) (outs : List (List (Option OutView))) (c : ℕ)
      (w : ClientWorker D) : Type 0 where
    pub own : IsClientAtStart p mode size c w
    pub row : w.lanes ≡ slice_index_or outs c []
    pub ready : IsClientReady p w
