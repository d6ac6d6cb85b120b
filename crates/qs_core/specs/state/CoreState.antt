-- The code of the optimised machine: what it holds, which state of the machine that is, and what it keeps.
use Rattle.std.specs.Prelude.{◌≡◌, ◌<◌, ◌≤◌, ℕ, false, List, [], length, map, replicate, slice_index_or, sum_by, Some, refl}
use Rattle.std.specs.Coded.{Coded, codes, code_by, coded×, coded_list, coded_ℕ}
use Rattle.std.specs.List.{AllByRecursion, range_with_len}
use Rattle.qs_objects.specs.declared.held.Ticket.{Ticket}
use Rattle.qs_program.specs.Shapes.{program_code}
use Rattle.qs_program.specs.audit.Program.{ProgramShape, blocks_of}
use Rattle.qs_syncset.specs.declared.mode.Mode.{Mode}
use Rattle.qs_syncset.specs.audit.Codes.{ClientCode, IsCodeOf, AreCodes}
use Rattle.qs_handler.specs.audit.Handler.{Handler, free}
use Rattle.qs_client.specs.audit.ClientModel.{ClientModel, fresh_mind}
use Rattle.qs_played.specs.Isolation.{IsIsolated}
use Rattle.qs_played.specs.declared.schedule.actor.Actor.{Actor}
use Rattle.qs_played.specs.audit.Played.{Played}
use Rattle.qs_played.specs.SyncSums.{AreSyncsCounted}
use Rattle.qs_objects.specs.Journals.{ticket_code}
use Rattle.qs_played.specs.audit.JournalRooms.{fresh_held}
use Rattle.qs_core_laws.specs.audit.Core.{Core, core_begin, core_step}
use Rattle.qs_core_laws.specs.CoreReached.{ReachedCore}
use Rattle.qs_core_laws.specs.audit.CoreSchedule.{core_played, core_plays}
use Rattle.qs_core_laws.specs.CoreSchedule.{core_scheduled, on_way}
use Rattle.qs_core.specs.parts.CoreClients.{AreStocked, CoreClientState, whole_of}
use Rattle.qs_core.specs.parts.CoreHandlers.{CoreHandlerState, handler_with_act, handler_with}
use Rattle.qs_core.specs.parts.LaneStates.{LaneState, fresh_lane, lane_at}

pub record CoreState : Type 0 where
  pub program : ProgramShape
  pub size : ℕ
  pub order : List Ticket
  pub clients : List CoreClientState
  pub handlers : List CoreHandlerState

-- a client's mind with what its act carries, and its lanes
pub record ClientPart : Type 0 where
  pub mind : ClientModel
  pub lanes : List LaneState

abbrev pub client_part : CoreClientState → ClientPart
client_part s = record { mind = whole_of s; lanes = s.lanes }

-- no client: it has no block
abbrev pub no_client_part : ClientPart
no_client_part = record { mind = fresh_mind (record { dynamic = false; blocks = [] }) 0; lanes = [] }

abbrev pub client_part_at : List CoreClientState → ℕ → ClientPart
client_part_at cs c = slice_index_or (map client_part cs) c no_client_part

abbrev pub core_handler_of : ProgramShape → List CoreHandlerState → ℕ → Handler
core_handler_of p hs h = slice_index_or (map handler_with_act hs) h (free (fresh_held p h))

abbrev pub tickets_at : List CoreHandlerState → ℕ → List Ticket
tickets_at hs h = slice_index_or (map (λ (s : CoreHandlerState). s.tickets) hs) h []

-- the machine of these clients and handlers
abbrev pub core_from : List Ticket → (ℕ → ClientPart) → (ℕ → Handler) → (ℕ → List Ticket) → Core
core_from order sides handler tickets = record {
  order = order;
  client = λ c. (sides c).mind.client;
  syncs = λ c. (sides c).mind.syncs;
  sync_counts = λ t. slice_index_or (sides t.client).mind.counts t.index [];
  down = λ c h. (lane_at (sides c).lanes h).down;
  up = λ c h. (lane_at (sides c).lanes h).up;
  spare = λ c h. length (lane_at (sides c).lanes h).spare;
  handler = handler;
  tickets = tickets;
  entry = λ t. slice_index_or (sides t.client).mind.entries t.index [];
  trace = λ t. slice_index_or (sides t.client).mind.traces t.index [];
}

-- the state of the machine
unfoldable pub core_of : CoreState → Core
core_of s = core_from s.order (client_part_at s.clients) (core_handler_of s.program s.handlers) (tickets_at s.handlers)

-- the codes of its clients
abbrev pub codes_of : CoreState → ℕ → ClientCode
codes_of s c = (client_part_at s.clients c).mind.code

-- one step of the actor, of the same program, codes and chunk size
pub record CoreSteps (old : CoreState) (actor : Actor) (new : CoreState) : Type 0 where
  pub steps : core_step (codes_of old) old.size (core_of old) actor ≡ Some (core_of new)
  pub program : new.program ≡ old.program
  pub size : new.size ≡ old.size
  pub codes : codes_of new ≡ codes_of old

-- how many blocks the program has
abbrev pub all_blocks : ProgramShape → ℕ
all_blocks p = sum_by (blocks_of p) (range_with_len 0 (length p.clients))

-- what a client keeps: the program's lanes, the chunks' size, and that its tickets are its own
pub record IsSide (p : ProgramShape) (chunk c : ℕ) (s : ClientPart) : Type 0 where
  pub lanes : length s.lanes ≡ length p.objects
  pub size : s.mind.size ≡ chunk
  pub owner : 0 < s.mind.client.begun → s.mind.ticket.client ≡ c

pub record IsCoreState (s : CoreState) : Type 0 where
  pub clients : length s.clients ≡ length s.program.clients
  pub handlers : length s.handlers ≡ length s.program.objects
  pub sides : (c : ℕ) → c < length s.clients → IsSide s.program s.size c (client_part_at s.clients c)
  pub stocked : AllByRecursion AreStocked s.clients
  pub rooms : AllByRecursion (λ (h : CoreHandlerState). all_blocks s.program ≤ h.room) s.handlers
  pub mode : Mode
  pub codes : AreCodes s.program mode (codes_of s)

-- a client before its first block, that runs its code with lanes to all handlers
pub record IsFreshClient (p : ProgramShape) (mode : Mode) (chunk c : ℕ) (s : CoreClientState) : Type 0 where
  pub code : ClientCode
  pub of : IsCodeOf p mode c code
  pub mind : whole_of s ≡ fresh_mind code chunk
  pub lanes : s.lanes ≡ replicate (length p.objects) (fresh_lane chunk)

pub record AreFreshClients (p : ProgramShape) (mode : Mode) (chunk : ℕ) (cs : List CoreClientState) : Type 0 where
  pub many : length cs ≡ length p.clients
  pub each : (c : ℕ) (d : CoreClientState) → c < length p.clients → IsFreshClient p mode chunk c (slice_index_or cs c d)

-- handlers that are free, each with its object as declared and room for so many tickets
pub record AreFreshHandlers (p : ProgramShape) (room : ℕ) (hs : List CoreHandlerState) : Type 0 where
  pub many : length hs ≡ length p.objects
  pub each : (h : ℕ) (d : CoreHandlerState) → h < length p.objects
      → slice_index_or hs h d ≡ handler_with (free (fresh_held p h)) [] room

-- the machine of a program before its first step, with its clients' codes in this mode
pub record IsFreshCore (p : ProgramShape) (mode : Mode) (chunk : ℕ) (s : CoreState) : Type 0 where
  pub program : s.program ≡ p
  pub size : s.size ≡ chunk
  pub begins : core_of s ≡ core_begin p
  pub codes : AreCodes p mode (codes_of s)

-- these actors led to it from the beginning of this program, with its clients' codes in this mode and chunks of this
-- size
pub record IsPlayedOn (p : ProgramShape) (mode : Mode) (chunk : ℕ) (actors : List Actor) (s : CoreState) : Type 0 where
  pub program : s.program ≡ p
  pub size : s.size ≡ chunk
  pub codes : AreCodes p mode (codes_of s)
  pub played : core_of s ≡ core_plays (codes_of s) chunk actors (core_begin p)

-- a list of actors leads to it
abbrev pub IsReachedCore : CoreState → Type 0
IsReachedCore s = (actors : List Actor) × (core_of s ≡ core_plays (codes_of s) s.size actors (core_begin s.program))

-- what holds of it after every schedule
abbrev pub CoreKeeps : CoreState → Type 0
CoreKeeps s = ReachedCore s.program (codes_of s) s.size (core_of s)

-- and after each step from it
abbrev pub StepsAreReached : CoreState → Type 0
StepsAreReached s =
    (a : Actor) (x : Core) → core_step (codes_of s) s.size (core_of s) a ≡ Some x
    → ReachedCore s.program (codes_of s) s.size x

-- what it has shown is isolated, with the commands that are on their way
abbrev pub CoreIsIsolated : CoreState → Type 0
CoreIsIsolated s = IsIsolated s.program (core_played s.program (core_of s)) (on_way (core_of s))

pub client_code : Coded CoreClientState
client_code = hlevel codes

pub handler_code : Coded CoreHandlerState
handler_code = hlevel codes

abbrev pub core_code : Coded CoreState
core_code =
    code_by (ProgramShape × (ℕ × (List Ticket × (List CoreClientState × List CoreHandlerState))))
    (coded× program_code (coded× coded_ℕ (coded× (coded_list ticket_code)
    (coded× (coded_list client_code) (coded_list handler_code)))))
    (λ s. (s.program, (s.size, (s.order, (s.clients, s.handlers)))))
    (λ p. record { program = p.0; size = p.1.0; order = p.1.1.0; clients = p.1.1.1.0; handlers = p.1.1.1.1 })
    (λ _. refl)

-- what is shown after a schedule is isolated, with the commands that are on their way then
unfoldable pub IsShownIsolated : ProgramShape → Mode → ℕ → List Actor → ℕ → Played → Type 0
IsShownIsolated p mode chunk picks rounds played =
    (code : ℕ → ClientCode) × AreCodes p mode code × (played ≡ core_played p (core_scheduled p code chunk picks rounds))
    × IsIsolated p played (on_way (core_scheduled p code chunk picks rounds))

-- what the optimised machine has shown is counted, in each mode whose codes it runs
abbrev pub CoreIsCounted : CoreState → Type 0
CoreIsCounted s =
    (mode : Mode) → AreCodes s.program mode (codes_of s)
    → AreSyncsCounted s.program mode (core_played s.program (core_of s))
