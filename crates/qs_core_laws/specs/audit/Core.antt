-- The optimised machine: clients that run their own queries, lanes of parcels, and handlers; one shared act a step.
use Rattle.std.specs.Prelude.{ℕ, Bool, zero, suc, ◌-◌, nat_lt, if◌then◌else◌, List, [], ◌∷◌, ◌++◌, length, Option, Some, None}
use Rattle.qs_objects.specs.audit.Journals.{HeldState}
use Rattle.qs_objects.specs.audit.Parts.{same}
use Rattle.qs_objects.specs.declared.held.Event.{Event}
use Rattle.qs_objects.specs.declared.held.Ticket.{Ticket}
use Rattle.qs_objects.specs.declared.held.Next.TheVariants as nexts
use Rattle.qs_program.specs.audit.Program.{ProgramShape, text_of}
use Rattle.qs_meaning.specs.audit.Serial.{zeros}
use Rattle.qs_meaning.specs.audit.Solo.{put}
use Rattle.qs_program.specs.audit.Sound.{is_in}
use Rattle.qs_program.specs.audit.Values.{Locals}
use Rattle.qs_sync_counts.specs.audit.SyncRows.{no_syncs, with_sync}
use Rattle.qs_sync_counts.specs.declared.sync_counts.SyncCount.{SyncCount}
use Rattle.qs_syncset.specs.audit.Codes.{ClientCode, blocks_in, reserved_of}
use Rattle.qs_chunk.specs.declared.parcel.Parcel.{Parcel}
use Rattle.qs_chunk.specs.declared.parcel.Parcel.TheVariants.{Work, Sync, Home, End}
use Rattle.qs_chunk.specs.audit.Limits.{lane_room, spare_room}
use Rattle.qs_handler.specs.audit.Handler.{Handler, free, gave, accept_parcel, accept_next}
use Rattle.qs_handler.specs.audit.Handler as handlers
use Rattle.qs_handler.specs.declared.mind.Act as handler_acts
use Rattle.qs_handler.specs.declared.mind.Act.TheVariants as acts
use Rattle.qs_client.specs.audit.rules.Client.{Client, ClientStage, Settings, Settlement, act_of, between, runs, full, awaits, leaves, begin, first_client, take_object, after_parcel, take_chunk}
use Rattle.qs_client.specs.audit.ClientModel.{synced_block}
use Rattle.qs_client.specs.declared.rules.act.Act as client_acts
use Rattle.qs_client.specs.declared.rules.act.Act.TheVariants as wants
use Rattle.qs_played.specs.audit.JournalRooms.{fresh_held}
use Rattle.qs_played.specs.audit.Played.{ticket}
use Rattle.qs_played.specs.declared.schedule.actor.Actor.{Actor}
use Rattle.qs_played.specs.declared.schedule.actor.Actor.TheVariants as actor

-- The order of reservations; each client, and the Syncs that it sent, also apart for each ticket and object of its
-- block's list; of the lane from a client to a handler the parcels that lie there, the object on its way up, and how
-- many empty chunks lie ready; each handler and its queue of tickets; of each ticket the variables at entry and the
-- trace.
pub record Core : Type 0 where
  pub order : List Ticket
  pub client : ℕ → Client
  pub syncs : ℕ → ℕ
  pub sync_counts : Ticket → List SyncCount
  pub down : ℕ → ℕ → List Parcel
  pub up : ℕ → ℕ → Option HeldState
  pub spare : ℕ → ℕ → ℕ
  pub handler : ℕ → Handler
  pub tickets : ℕ → List Ticket
  pub entry : Ticket → Locals
  pub trace : Ticket → List Event

-- at client c and handler h
abbrev pub put_lane : {A : Type 0} → (ℕ → ℕ → A) → ℕ → ℕ → A → ℕ → ℕ → A
put_lane f c h a = put f c (put (f c) h a)

-- at a ticket
abbrev pub put_ticket : {A : Type 0} → (Ticket → A) → Ticket → A → Ticket → A
put_ticket f t a u = if same t u then a else f u

module _ (code : ℕ → ClientCode) (size : ℕ) where
  abbrev pub settings_of : ℕ → Settings
  settings_of c = record { dynamic = (code c).dynamic; size = size }

  -- whether a ticket's block reserves this handler
  abbrev pub may : Ticket → ℕ → Bool
  may t h = is_in (reserved_of code t) h

  -- the ticket of the block that a client is in
  abbrev pub current : ℕ → Client → Ticket
  current c m = ticket c (m.begun - 1)

  -- a client after an act, with what entered its block's trace
  abbrev pub after_act : Core → ℕ → Ticket → Settlement → Core
  after_act s c t r = record s {
    client = put s.client c r.client;
    trace = put_ticket s.trace t (s.trace t ++ r.events);
  }

  -- Reserve: the ticket comes to the order, and to the queue of each handler of the block's list
  abbrev pub after_reserve : Core → ℕ → Ticket → Locals → Settlement → Core
  after_reserve s c t l r = record s {
    order = s.order ++ t ∷ [];
    client = put s.client c r.client;
    tickets = λ h. if may t h then s.tickets h ++ t ∷ [] else s.tickets h;
    entry = put_ticket s.entry t l;
    trace = put_ticket s.trace t r.events;
  }

  abbrev pub reserves_from : Core → ℕ → ClientStage → Option Core
  reserves_from s c (between l) =
      let t = ticket c (s.client c).begun in
      Some (after_reserve s c t l (begin (settings_of c) t (reserved_of code t) (s.client c) (synced_block code t l)))
  reserves_from s c (runs rest) = None
  reserves_from s c (full h rest) = None
  reserves_from s c (awaits h rest) = None
  reserves_from s c (leaves h hs l) = None

  -- the Syncs of a client once it sent this
  abbrev pub syncs_after : (ℕ → ℕ) → ℕ → Parcel → ℕ → ℕ
  syncs_after syncs c Sync = put syncs c (suc (syncs c))
  syncs_after syncs c (Work chunk) = syncs
  syncs_after syncs c (Home x) = syncs
  syncs_after syncs c End = syncs

  -- and apart for the block that it is in
  abbrev pub sync_counts_after : (Ticket → List SyncCount) → Ticket → ℕ → Parcel → Ticket → List SyncCount
  sync_counts_after counts t h Sync = put_ticket counts t (with_sync h (counts t))
  sync_counts_after counts t h (Work chunk) = counts
  sync_counts_after counts t h (Home x) = counts
  sync_counts_after counts t h End = counts

  abbrev pub lies : Core → ℕ → ℕ → Parcel → Core
  lies s c h parcel = record s {
    syncs = syncs_after s.syncs c parcel;
    sync_counts = sync_counts_after s.sync_counts (current c (s.client c)) h parcel;
    down = put_lane s.down c h (s.down c h ++ parcel ∷ []);
  }

  -- SendParcel
  abbrev pub sends : Core → ℕ → ℕ → Parcel → Option Core
  sends s c h parcel =
      let m = s.client c in
      let t = current c m in
      if nat_lt (length (s.down c h)) lane_room
      then Some (after_act (lies s c h parcel) c t (after_parcel (settings_of c) t (reserved_of code t) m h parcel))
      else None

  abbrev pub with_up : Core → ℕ → ℕ → Option HeldState → Core
  with_up s c h x = record s { up = put_lane s.up c h x }

  abbrev pub with_spare : Core → ℕ → ℕ → ℕ → Core
  with_spare s c h n = record s { spare = put_lane s.spare c h n }

  -- GetObject
  abbrev pub gets : Core → ℕ → ℕ → Option HeldState → Option Core
  gets s c h None = None
  gets s c h (Some x) =
      let m = s.client c in
      let t = current c m in
      Some (after_act (with_up s c h None) c t (take_object (settings_of c) t (reserved_of code t) m x m.stage))

  -- an empty chunk is taken
  abbrev pub takes_chunk : Core → ℕ → ℕ → ℕ → Option Core
  takes_chunk s c h zero = None
  takes_chunk s c h (suc n) =
      let m = s.client c in
      let t = current c m in
      Some (after_act (with_spare s c h n) c t (take_chunk (settings_of c) t (reserved_of code t) m h m.stage))

  abbrev pub client_step : Core → ℕ → client_acts.Act → Option Core
  client_step s c wants.Reserve = reserves_from s c (s.client c).stage
  client_step s c (wants.Send h parcel) = sends s c h parcel
  client_step s c (wants.Await h) = gets s c h (s.up c h)
  client_step s c (wants.NeedChunk h) = takes_chunk s c h (s.spare c h)
  client_step s c wants.Finished = None

  abbrev pub handles : Core → ℕ → Handler → Core
  handles s h x = record s { handler = put s.handler h x }

  abbrev pub with_tickets : Core → ℕ → List Ticket → Core
  with_tickets s h ts = record s { tickets = put s.tickets h ts }

  abbrev pub with_down : Core → ℕ → ℕ → List Parcel → Core
  with_down s c h ps = record s { down = put_lane s.down c h ps }

  -- a handler that came to this with what it took, where that may come to it
  abbrev pub after_handler : Core → ℕ → Option Handler → Option Core
  after_handler s h None = None
  after_handler s h (Some x) = Some (handles s h x)

  -- TakeTicket
  abbrev pub takes_ticket : Core → ℕ → List Ticket → Option Core
  takes_ticket s h [] = None
  takes_ticket s h (t ∷ ts) = after_handler (with_tickets s h ts) h (accept_next (s.handler h) (nexts.Ticket t))

  -- TakeParcel
  abbrev pub takes_parcel : Core → ℕ → ℕ → List Parcel → Option Core
  takes_parcel s h c [] = None
  takes_parcel s h c (parcel ∷ ps) = after_handler (with_down s c h ps) h (accept_parcel (s.handler h) parcel)

  -- GiveObject
  abbrev pub gives : Core → ℕ → ℕ → HeldState → Option HeldState → Option Core
  gives s h c x None = Some (handles (with_up s c h (Some x)) h (gave (s.handler h)))
  gives s h c x (Some y) = None

  -- an empty chunk is given back
  abbrev pub gives_chunk : Core → ℕ → ℕ → Option Core
  gives_chunk s h c =
      if nat_lt (s.spare c h) spare_room then Some
      (handles (with_spare s c h (suc (s.spare c h))) h (gave (s.handler h))) else None

  abbrev pub handler_step : Core → ℕ → handler_acts.Act → Option Core
  handler_step s h acts.TakeTicket = takes_ticket s h (s.tickets h)
  handler_step s h (acts.TakeParcel c) = takes_parcel s h c (s.down c h)
  handler_step s h (acts.Give c x) = gives s h c x (s.up c h)
  handler_step s h (acts.Spare c chunk) = gives_chunk s h c
  handler_step s h acts.Closed = None

  -- an actor's one step, where it has one
  abbrev pub core_step : Core → Actor → Option Core
  core_step s (actor.Client c) = client_step s c (act_of (settings_of c) (blocks_in code c) (s.client c))
  core_step s (actor.Handler h) = handler_step s h (handlers.act_of (s.handler h))

-- each client has its variables at 0, each handler its object, and in each lane lie four empty chunks
abbrev pub core_begin : ProgramShape → Core
core_begin p = record {
  order = [];
  client = λ c. first_client zeros;
  syncs = λ c. 0;
  sync_counts = λ t. no_syncs (text_of p t).reserved;
  down = λ c h. [];
  up = λ c h. None;
  spare = λ c h. spare_room;
  handler = λ h. free (fresh_held p h);
  tickets = λ h. [];
  entry = λ t. [];
  trace = λ t. [];
}
