-- What a client of the optimised machine does next, and what each act and each arrival changes. The client is a pure
-- record: its stage, the objects that it holds, and its open chunks. Here stand the rules of coalescing, each at its
-- function: `settle` skips a synchronisation, `query` runs a query on an object that the client holds, `call` puts a
-- command into a chunk, and `clear` sends an object home or a chunk away before anything else goes to that handler.
use Rattle.std.specs.Prelude.{ℕ, suc, nat_lt, ℤ, Bool, if◌then◌else◌, ◌==◌, ◌&&◌, is_some, List, [], ◌∷◌, ◌++◌, length, Option, Some, None}
use Rattle.qs_objects.specs.audit.Journals.{HeldState, run_one}
use Rattle.qs_objects.specs.audit.Parts.{command_event}
use Rattle.qs_objects.specs.declared.held.Event.{Event}
use Rattle.qs_objects.specs.declared.held.Ticket.{Ticket}
use Rattle.qs_objects.specs.declared.Request.{Request}
use Rattle.qs_program.specs.audit.Values.{Locals}
use Rattle.qs_meaning.specs.audit.Solo.{event, put, value_of}
use Rattle.qs_graph.specs.audit.Synced.{Synced, Done, Call, Sync, Query}
use Rattle.qs_chunk.specs.audit.Batch.{batch}
use Rattle.qs_chunk.specs.declared.parcel.Parcel.{Parcel}
use Rattle.qs_chunk.specs.declared.parcel.Parcel.TheVariants as parcels
use Rattle.qs_client.specs.declared.rules.act.Act.{Act}
use Rattle.qs_client.specs.declared.rules.act.Act.TheVariants.{Reserve, Send, Await, NeedChunk, Finished}

-- the stage of a client: between blocks; in a block, with the rest of it; there with a full chunk; waiting for an
-- object; or at a block's end, leaving this object and then the others
pub data ClientStage : Type 0 where
  between : (locals : Locals) → ClientStage
  runs : (rest : Synced) → ClientStage
  full : (object : ℕ) → (rest : Synced) → ClientStage
  awaits : (object : ℕ) → (rest : Synced) → ClientStage
  leaves : (object : ℕ) → (others : List ℕ) → (locals : Locals) → ClientStage

-- how many blocks it has begun, its stage, the objects that it holds, and its open chunks
pub record Client : Type 0 where
  pub begun : ℕ
  pub stage : ClientStage
  pub held : ℕ → Option HeldState
  pub chunk : ℕ → Option (List Request)

-- whether a synchronisation with an object that is held is skipped, and how many requests a chunk takes
pub record Settings : Type 0 where
  pub dynamic : Bool
  pub size : ℕ

abbrev pub set_stage : Client → ClientStage → Client
set_stage m p = record m { stage = p }

abbrev pub set_held : Client → ℕ → Option HeldState → Client
set_held m h x = record m { held = put m.held h x }

abbrev pub set_chunk : Client → ℕ → Option (List Request) → Client
set_chunk m h rs = record m { chunk = put m.chunk h rs }

-- a client that has settled, with the events that entered its block's trace meanwhile
pub record Settlement : Type 0 where
  pub client : Client
  pub events : List Event

-- the client stops here
abbrev pub stop_at : Client → ClientStage → Settlement
stop_at m p = record { client = set_stage m p; events = [] }

abbrev pub with_event : Event → Settlement → Settlement
with_event e s = record { client = s.client; events = e ∷ s.events }

module _ (settings : Settings) where
  abbrev pub work : List Request → Parcel
  work rs = parcels.Work (batch rs settings.size)

  -- what goes to a handler first: a held object goes home; else an open chunk goes; else this act is next
  abbrev pub clear : ℕ → Option HeldState → Option (List Request) → Act → Act
  clear h (Some x) c other = Send h (parcels.Home x)
  clear h None (Some rs) other = Send h (work rs)
  clear h None None other = other

  -- the act before a command: the object goes home, a chunk is taken, or a full one goes
  abbrev pub call_act : ℕ → Option HeldState → Option (List Request) → Act
  call_act h (Some x) c = Send h (parcels.Home x)
  call_act h None None = NeedChunk h
  call_act h None (Some rs) = Send h (work rs)

  -- the next act of a client in its block, by the rest of the block
  abbrev pub rest_act : Client → Synced → Act
  rest_act m (Done l) = Finished
  rest_act m (Call r next) = call_act r.object (m.held r.object) (m.chunk r.object)
  rest_act m (Sync h next) = clear h (m.held h) (m.chunk h) (Send h parcels.Sync)
  rest_act m (Query r next) = Await r.object

  abbrev pub act_at : ℕ → Client → ClientStage → Act
  act_at blocks m (between l) = if nat_lt m.begun blocks then Reserve else Finished
  act_at blocks m (runs rest) = rest_act m rest
  act_at blocks m (full h rest) = clear h None (m.chunk h) Finished
  act_at blocks m (awaits h rest) = Await h
  act_at blocks m (leaves h hs l) = clear h (m.held h) (m.chunk h) (Send h parcels.End)

  -- the next act of a client that has settled and has so many blocks
  abbrev pub act_of : ℕ → Client → Act
  act_of blocks m = act_at blocks m m.stage

  -- all that a client does to its own values up to its next act, in the block of this ticket that reserves these
  -- objects
  module _ (ticket : Ticket) (reserved : List ℕ) where
    -- a client leaves its block: these objects are left, in this order
    abbrev pub end_block : Client → List ℕ → Locals → Settlement
    end_block m [] l = stop_at m (between l)
    end_block m (h ∷ hs) l = stop_at m (leaves h hs l)

    -- a command goes into an open chunk where the object is not held; a full chunk goes at once
    abbrev pub call : Client → Request → Synced → (Client → Settlement) → Option HeldState → Option (List Request)
        → Settlement
    call m r next go (Some x) c = stop_at m (runs (Call r next))
    call m r next go None None = stop_at m (runs (Call r next))
    call m r next go None (Some rs) =
        let more = rs ++ r ∷ [] in
        let m' = set_chunk m r.object (Some more) in
        with_event (command_event r) (if length more == settings.size then stop_at m' (full r.object next) else go m')

    -- a query is run by the client itself on an object that it holds; where it does not hold the object, it waits
    abbrev pub query : Client → Request → (ℤ → Synced) → (ℤ → Client → Settlement) → Option HeldState → Settlement
    query m r next go (Some x) =
        let o = run_one x ticket r in
        with_event (event r o.1) (go (value_of o.1) (set_held m r.object (Some o.0)))
    query m r next go None = stop_at m (runs (Query r next))

    -- all quiet work up to the next act; a synchronisation is skipped only where the client tests and holds the object
    abbrev pub settle : Synced → Client → Settlement
    settle (Done l) m = end_block m reserved l
    settle (Call r next) m = call m r next (λ m. settle next m) (m.held r.object) (m.chunk r.object)
    settle (Sync h next) m =
        if settings.dynamic && is_some (m.held h) then settle next m else stop_at m (runs (Sync h next))
    settle (Query r next) m = query m r next (λ v m. settle (next v) m) (m.held r.object)

    -- once a parcel was sent

    abbrev pub after_home : Client → ℕ → ClientStage → Settlement
    after_home m h (runs rest) = settle rest (set_held m h None)
    after_home m h (leaves g hs l) = stop_at (set_held m h None) (leaves g hs l)
    after_home m h p = stop_at m p

    abbrev pub after_work : Client → ℕ → ClientStage → Settlement
    after_work m h (full g rest) = settle rest (set_chunk m h None)
    after_work m h (runs rest) = settle rest (set_chunk m h None)
    after_work m h (leaves g hs l) = stop_at (set_chunk m h None) (leaves g hs l)
    after_work m h p = stop_at m p

    abbrev pub after_sync : Client → ClientStage → Settlement
    after_sync m (runs (Sync h next)) = stop_at m (awaits h next)
    after_sync m p = stop_at m p

    abbrev pub after_end : Client → ClientStage → Settlement
    after_end m (leaves h hs l) = end_block m hs l
    after_end m p = stop_at m p

    abbrev pub after_parcel : Client → ℕ → Parcel → Settlement
    after_parcel m h (parcels.Home x) = after_home m h m.stage
    after_parcel m h (parcels.Work chunk) = after_work m h m.stage
    after_parcel m h parcels.Sync = after_sync m m.stage
    after_parcel m h parcels.End = after_end m m.stage

    -- once the object came, or an empty chunk
    abbrev pub take_object : Client → HeldState → ClientStage → Settlement
    take_object m x (awaits h rest) = settle rest (set_held m h (Some x))
    take_object m x p = stop_at m p

    abbrev pub take_chunk : Client → ℕ → ClientStage → Settlement
    take_chunk m h (runs rest) = settle rest (set_chunk m h (Some []))
    take_chunk m h p = stop_at m p

    -- once the block was reserved
    abbrev pub begin : Client → Synced → Settlement
    begin m rest = settle rest (record m { begun = suc m.begun })

-- before its first block
abbrev pub first_client : Locals → Client
first_client l = record { begun = 0; stage = between l; held = λ h. None; chunk = λ h. None }
