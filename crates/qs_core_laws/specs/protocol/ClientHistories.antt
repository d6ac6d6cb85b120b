-- The promise of this crate: what one client's whole run says, block by block, from its deeds alone. Each block is over
-- and has its record, what was sent to each of its objects and what was got from it; joined, these are all that the
-- client sent and got.
use Rattle.std.specs.Prelude.{◌≡◌, ◌<◌, ℕ, zero, suc, true, false, if◌then◌else◌, List, [], ◌++◌, length, slice_index_or, None}
use Rattle.qs_objects.specs.audit.Journals.{HeldState}
use Rattle.qs_objects.specs.audit.Parts.{part}
use Rattle.qs_objects.specs.declared.held.Ticket.{Ticket}
use Rattle.qs_program.specs.audit.Program.{ProgramShape}
use Rattle.qs_meaning.specs.BlockRecords.{BlockRecord, Begins, IsDone, IsBlockRecord}
use Rattle.qs_meaning.specs.audit.Following.{reserves}
use Rattle.qs_meaning.specs.Following.{AsksOnly}
use Rattle.qs_meaning.specs.audit.Serial.{zeros}
use Rattle.qs_syncset.specs.audit.Codes.{ClientCode}
use Rattle.qs_chunk.specs.LaneViews.{ObjectStance, gone, sends, ClientLane}
use Rattle.qs_chunk.specs.declared.parcel.Parcel.{Parcel}
use Rattle.qs_client.specs.audit.rules.Client.{Client}
use Rattle.qs_client.specs.audit.rules.Client as clients
use Rattle.qs_client.specs.audit.ClientModel.{ClientModel, is_between}
use Rattle.qs_client.specs.audit.ClientRuns.{Deed, got_from, reservations, sent_to}
use Rattle.qs_played.specs.audit.Played.{ticket}

-- the client has neither the object nor an open chunk for it
abbrev pub HasNone : Client → ℕ → Type 0
HasNone m h = (m.held h ≡ None) × (m.chunk h ≡ None)

-- a block record whose rest asks within the block's list
pub record IsOpenRecord (p : ProgramShape) (t : Ticket) (pg : BlockRecord) : Type 0 where
  pub path : IsBlockRecord p t pg
  pub fine : AsksOnly (reserves p t) pg.rest

-- left, or not reserved at all
abbrev pub apart_from : ProgramShape → Ticket → ℕ → ObjectStance
apart_from p t h = if reserves p t h then gone else sends []

-- the first n lists, joined
abbrev pub upto : {A : Type 0} → (ℕ → List A) → ℕ → List A
upto f zero = []
upto f (suc n) = upto f n ++ f n

module _ (program : ProgramShape) (c : ℕ) where
  -- a block that is over: its block record, and for each object what was sent and got
  pub record IsBlockHistory (k : ℕ) (pg : BlockRecord) (sent : ℕ → List Parcel)
      (got : ℕ → List HeldState) : Type 0 where
    pub block_record : IsOpenRecord program (ticket c k) pg
    pub done : IsDone pg.rest
    pub lanes : (h : ℕ) → ClientLane (ticket c k) false (sent h) (got h) (part h pg.trace)
        (apart_from program (ticket c k) h)
    pub outside : (h : ℕ) → reserves program (ticket c k) h ≡ false → (sent h ≡ []) × (got h ≡ [])

-- what one client's whole run says
pub record ClientHistory (program : ProgramShape) (c : ℕ) (code : ClientCode) (deeds : List Deed)
    (end : ClientModel) : Type 0 where
  pub block_record : ℕ → BlockRecord
  pub sent : ℕ → ℕ → List Parcel
  pub got : ℕ → ℕ → List HeldState
  pub begun : end.client.begun ≡ length code.blocks
  pub reserved : reservations deeds ≡ length code.blocks
  pub between : is_between end.client.stage ≡ true
  pub hands : (h : ℕ) → HasNone end.client h
  pub first : length code.blocks ≡ 0 → end.client.stage ≡ clients.between zeros
  pub blocks : (k : ℕ) → k < length code.blocks → IsBlockHistory program c k (block_record k) (sent k) (got k)
  pub begins : (k : ℕ) → k < length code.blocks
      → Begins (λ (t : Ticket). block_record t.index) c k (block_record k).entry
  pub entries : (k : ℕ) → k < length code.blocks → slice_index_or end.entries k [] ≡ (block_record k).entry
  pub traces : (k : ℕ) → k < length code.blocks → slice_index_or end.traces k [] ≡ (block_record k).trace
  pub sent_is : (h : ℕ) → sent_to h deeds ≡ upto (λ k. sent k h) (length code.blocks)
  pub got_is : (h : ℕ) → got_from h deeds ≡ upto (λ k. got k h) (length code.blocks)
