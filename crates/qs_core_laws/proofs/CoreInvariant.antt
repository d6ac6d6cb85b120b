-- This file defines the invariant of the optimised machine: for each ticket its block record, for each ticket and
-- object what was sent and got, and how the machine's state goes on with this history. The proof of isolation keeps it
-- through each step and reads the journals off it. A client's history and an object's are kept apart, each by its own
-- records, and meet in what lies in the lanes.
use Rattle.std.proofs.Common.{◌≡◌, ◌<◌, ◌≤◌, ℕ, suc, true, false, List, [], filter}
use Rattle.qs_played.proofs.Names.{AllByRecursion, HeldState, part, Ticket, reserves, ProgramShape, IsLegal, zeros, BlockRecord, Begins, IsDone, ticket, fresh_held}
use Rattle.qs_core_laws.proofs.Names.{ObjectStance, gone, ClientLane, Parcel, between, counts_after, HasNone, IsOpenRecord, Core}
use Rattle.qs_core_laws.proofs.protocol.ClientInvariants.{PlaceOk, standing_at}
use Rattle.qs_core_laws.proofs.protocol.ObjectViews.{as_list, ObjectView, ClientLog, HandlerLog, IsObject}

-- of each ticket its block record, and for each object what its client sent and got, and how it stands
pub record LaneHistory : Type 0 where
  pub block_record : Ticket → BlockRecord
  pub sent : Ticket → ℕ → List Parcel
  pub got : Ticket → ℕ → List HeldState
  pub stands : Ticket → ℕ → ObjectStance

abbrev pub post : Core → ℕ → ObjectView
post s h = record { handler = s.handler h; tickets = s.tickets h; down = λ c. s.down c h; up = λ c. as_list (s.up c h) }

abbrev pub deeds : LaneHistory → ℕ → ClientLog
deeds y h = record { sent = λ t. y.sent t h; got = λ t. y.got t h; events = λ t. part h (y.block_record t).trace; stands = λ t. y.stands t h }

-- a ticket's block record and lanes; where it has left an object, the block is over
pub record TicketOk (program : ProgramShape) (y : LaneHistory) (t : Ticket) : Type 0 where
  pub block_record : IsOpenRecord program t (y.block_record t)
  pub begins : Begins y.block_record t.client t.index (y.block_record t).entry
  pub lane : (h : ℕ) → ClientLane t false (y.sent t h) (y.got t h) (part h (y.block_record t).trace) (y.stands t h)
  pub gone : (h : ℕ) → y.stands t h ≡ gone → IsDone (y.block_record t).rest

pub record CoreInvariant (program : ProgramShape) (s : Core) (y : LaneHistory) (g : ℕ → HandlerLog) : Type 0 where
  pub legal : IsLegal program s.order
  pub counts : (c : ℕ) → counts_after (λ _. 0) s.order c ≡ (s.client c).begun
  pub below : AllByRecursion (λ (t : Ticket). suc t.index ≤ (s.client t.client).begun) s.order
  pub tickets_ok : AllByRecursion (TicketOk program y) s.order
  pub entry : (t : Ticket) → (y.block_record t).entry ≡ s.entry t
  pub trace : (t : Ticket) → (y.block_record t).trace ≡ s.trace t
  pub idle : (c : ℕ) → (s.client c).begun ≡ 0 → ((s.client c).stage ≡ between zeros) × ((h : ℕ) → HasNone (s.client c) h)
  pub places : (c k : ℕ) → (s.client c).begun ≡ suc k
      → PlaceOk program (ticket c k) (y.sent (ticket c k)) (y.got (ticket c k)) (s.client c) (y.block_record (ticket c k)) (s.client c).stage
  pub stands : (c k : ℕ) → (s.client c).begun ≡ suc k → (h : ℕ) → y.stands (ticket c k) h ≡ standing_at program (ticket c k) (s.client c) (s.client c).stage h
  pub older : (c k : ℕ) → suc k < (s.client c).begun → (h : ℕ) → reserves program (ticket c k) h ≡ true → y.stands (ticket c k) h ≡ gone
  -- nothing passes between a block and an object that it doesn't reserve
  pub outside : (t : Ticket) (h : ℕ) → reserves program t h ≡ false → (y.sent t h ≡ []) × (y.got t h ≡ [])
  pub objects : (h : ℕ) → IsObject (filter (λ t. reserves program t h) s.order) (fresh_held program h) (post s h) (deeds y h) (g h)
