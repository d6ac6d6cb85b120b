-- What the code of the optimised machine shows of a run, by its lists of clients and handlers.
use Rattle.std.specs.Prelude.{◌≡◌, ◌<◌, ◌≤◌, ℕ, Bool, ◌&&◌, IsSome, List, [], length, map, sum_by, slice_index_or, nat_eq, Option, Some}
use Rattle.std.specs.List.{AllByRecursion, range_with_len}
use Rattle.qs_objects.specs.audit.Journals.{HeldState}
use Rattle.qs_objects.specs.declared.held.Ticket.{Ticket}
use Rattle.qs_program.specs.audit.Limits.{most_clients, most_handlers}
use Rattle.qs_handler.specs.audit.Handler.{act_of}
use Rattle.qs_client.specs.audit.ClientModel.{ClientModel, is_between, has_ended}
use Rattle.qs_played.specs.audit.Played.{Played}
use Rattle.qs_played.specs.Played.{ClientRows}
use Rattle.qs_played.specs.declared.shown.played.Endings.{Endings}
use Rattle.qs_client.specs.MindState.{IsMind}
use Rattle.qs_core_laws.specs.audit.Core.{Core}
use Rattle.qs_core_laws.specs.audit.CoreSchedule.{all_of, found_by, held_or_none}
use Rattle.qs_core.specs.parts.CoreClients.{CoreClientState, rows_of, whole_of}
use Rattle.qs_core.specs.parts.CoreHandlers.{CoreHandlerState, handler_with_act, core_handler_at, no_core_handler, turns_to, is_waiting}
use Rattle.qs_core.specs.parts.LaneStates.{LaneState, lane_at}
use Rattle.qs_core.specs.state.CoreState.{core_from, client_part_at}

-- how many Syncs a client sends at most: one at each node that it comes to, of at most 3,000,002 in each of its 64
-- blocks
abbrev pub most_syncs : ℕ
most_syncs = 192000128

-- a ticket names a block that one of these clients has begun, and so do all
abbrev pub IsBegunBy : List CoreClientState → Ticket → Type 0
IsBegunBy cs t = (t.client < length cs) × (t.index < (client_part_at cs t.client).mind.client.begun)

abbrev pub AreBegunBy : List CoreClientState → List Ticket → Type 0
AreBegunBy cs order = (i : ℕ) (d : Ticket) → i < length order → IsBegunBy cs (slice_index_or order i d)

-- a client is between two blocks, with none to come
abbrev pub is_through : ClientModel → Bool
is_through m = is_between m.client.stage && nat_eq m.client.begun (length m.code.blocks)

-- so does each client
abbrev pub are_through : List CoreClientState → Bool
are_through cs = all_of (λ c. is_through (client_part_at cs c).mind) (range_with_len 0 (length cs))

-- no parcel lies in a lane
abbrev pub is_clear : LaneState → Bool
is_clear l = nat_eq (length l.down) 0

-- nothing lies in any client's lane to handler h
abbrev pub are_clear : List CoreClientState → ℕ → Bool
are_clear cs h = all_of (λ c. is_clear (lane_at (client_part_at cs c).lanes h)) (range_with_len 0 (length cs))

-- each handler waits, and nothing lies in a lane to it
abbrev pub are_waiting : List CoreClientState → List CoreHandlerState → Bool
are_waiting cs hs = all_of (λ h. is_waiting (core_handler_at hs h) && are_clear cs h) (range_with_len 0 (length hs))

-- each client has a lane to handler h, and to each of these handlers
abbrev pub HaveLane : List CoreClientState → ℕ → Type 0
HaveLane cs h = (c : ℕ) → c < length cs → h < length (client_part_at cs c).lanes

abbrev pub HaveLanes : List CoreClientState → List CoreHandlerState → Type 0
HaveLanes cs hs = (h : ℕ) → h < length hs → HaveLane cs h

-- a handler turns to one of these clients, and so does each
abbrev pub TurnsTo : List CoreClientState → CoreHandlerState → Type 0
TurnsTo cs s = (c : ℕ) → turns_to (act_of (handler_with_act s)) ≡ Some c → c < length cs

abbrev pub TurnTo : List CoreClientState → List CoreHandlerState → Type 0
TurnTo cs hs = (h : ℕ) → h < length hs → TurnsTo cs (core_handler_at hs h)

-- the machine of these clients
abbrev pub core_in : List CoreClientState → Core
core_in cs = core_from [] (client_part_at cs) (λ h. handler_with_act no_core_handler) (λ h. [])

-- the object of a handler of number h with its journal, wherever it is
unfoldable pub object_with : List CoreClientState → CoreHandlerState → ℕ → Option HeldState
object_with cs s h = found_by (core_in cs) h (handler_with_act s)

abbrev pub held_with : List CoreClientState → CoreHandlerState → ℕ → HeldState
held_with cs s h = held_or_none (object_with cs s h)

-- the object of handler h
abbrev pub core_object_at : List CoreClientState → List CoreHandlerState → ℕ → Option HeldState
core_object_at cs hs h = object_with cs (core_handler_at hs h) h

abbrev pub core_held_at : List CoreClientState → List CoreHandlerState → ℕ → HeldState
core_held_at cs hs h = held_with cs (core_handler_at hs h) h

-- each object is somewhere
abbrev pub AreSomewhere : List CoreClientState → List CoreHandlerState → Type 0
AreSomewhere cs hs = (h : ℕ) → h < length hs → IsSome (core_object_at cs hs h)

-- what the run has shown beside the clients' rows
unfoldable pub endings_by : List Ticket → List CoreClientState → List CoreHandlerState → Endings
endings_by order cs hs = record {
  ended = map (λ (t : Ticket). has_ended (client_part_at cs t.client).mind.client t.index) order;
  journals = map (λ h. (core_held_at cs hs h).journal) (range_with_len 0 (length hs));
  states = map (λ h. (core_held_at cs hs h).object) (range_with_len 0 (length hs));
  syncs = sum_by (λ c. (client_part_at cs c).mind.syncs) (range_with_len 0 (length cs));
  finished = are_through cs && are_waiting cs hs;
}

-- and the clients' rows
abbrev pub rows_by : List CoreClientState → List ClientRows
rows_by cs = map (λ (s : CoreClientState). rows_of (whole_of s)) cs

-- what holds of the mind of each client
abbrev pub AreMinds : List CoreClientState → Type 0
AreMinds cs = AllByRecursion (λ (s : CoreClientState). IsMind (whole_of s)) cs

-- what the run has shown, by these lists
unfoldable pub shown_by : List Ticket → List CoreClientState → List CoreHandlerState → Played
shown_by order cs hs = record {
  order = order;
  ended = map (λ (t : Ticket). has_ended (client_part_at cs t.client).mind.client t.index) order;
  entries = map (λ (t : Ticket). slice_index_or (client_part_at cs t.client).mind.entries t.index []) order;
  traces = map (λ (t : Ticket). slice_index_or (client_part_at cs t.client).mind.traces t.index []) order;
  sync_counts = map (λ (t : Ticket). slice_index_or (client_part_at cs t.client).mind.counts t.index []) order;
  journals = map (λ h. (core_held_at cs hs h).journal) (range_with_len 0 (length hs));
  states = map (λ h. (core_held_at cs hs h).object) (range_with_len 0 (length hs));
  syncs = sum_by (λ c. (client_part_at cs c).mind.syncs) (range_with_len 0 (length cs));
  finished = are_through cs && are_waiting cs hs;
}

-- of these lists all that is shown can be read off
pub record AreShowable (order : List Ticket) (cs : List CoreClientState) (hs : List CoreHandlerState) : Type 0 where
  pub clients : length cs ≤ most_clients
  pub handlers : length hs ≤ most_handlers
  pub begun : AreBegunBy cs order
  pub lanes : HaveLanes cs hs
  pub turns : TurnTo cs hs
  pub somewhere : AreSomewhere cs hs
