-- How a client stands to the lane of a handler, by the parcels that it sent there.
use Rattle.std.specs.Prelude.{◌≡◌, ◌≢◌, ℕ, ◌==◌, ◌||◌, Bool, false, is_some, List, [], ◌∷◌, ◌++◌, None}
use Rattle.qs_objects.specs.audit.Journals.{HeldState}
use Rattle.qs_objects.specs.declared.held.Ticket.{Ticket}
use Rattle.qs_syncset.specs.audit.Codes.{ClientCode}
use Rattle.qs_chunk.specs.audit.Lanes.{is_asked}
use Rattle.qs_chunk.specs.Lanes.{MayFollow}
use Rattle.qs_chunk.specs.declared.parcel.Parcel.{Parcel}
use Rattle.qs_client.specs.run.NextActs.{SendsNothing}
use Rattle.qs_client.specs.audit.rules.Client.{Client, ClientStage, between, runs, full, awaits, leaves}
use Rattle.qs_client.specs.declared.rules.act.Act.TheVariants as acts
use Rattle.qs_client.specs.audit.ClientModel.{ClientModel, mind_after_begin, mind_after_chunk, finish, fresh_mind, mind_after_object, next_act, next_mind}
use Rattle.qs_client.specs.ClientModel.{Asks}

-- whether a client waits for the object of a handler
abbrev pub is_awaited : ClientStage → ℕ → Bool
is_awaited (between l) h = false
is_awaited (runs rest) h = false
is_awaited (full g rest) h = false
is_awaited (awaits g rest) h = g == h
is_awaited (leaves g hs l) h = false

-- where a full chunk goes to this handler, its object is not held
abbrev pub IsFree : ClientStage → Client → ℕ → Type 0
IsFree (full g rest) m h = g ≡ h → m.held h ≡ None
IsFree (between l) m h = Unit {0}
IsFree (runs rest) m h = Unit {0}
IsFree (awaits g rest) m h = Unit {0}
IsFree (leaves g hs l) m h = Unit {0}

-- the last parcel that it sent to the handler is a Sync exactly where it waits for the object or holds it
pub record ClientFitsLane (m : Client) (h : ℕ) (sent : List Parcel) : Type 0 where
  pub last : is_asked false sent ≡ (is_awaited m.stage h || is_some (m.held h))
  pub free : IsFree m.stage m h

-- so a mind stands to the lane of a handler, once its last act was done
abbrev pub MindStandsAt : ClientModel → ℕ → List Parcel → Type 0
MindStandsAt m h sent = ClientFitsLane (finish m).client h sent

abbrev pub BeginsAtLanes : Type 0
BeginsAtLanes = (code : ClientCode) (size h : ℕ) → MindStandsAt (fresh_mind code size) h []

-- what it sends to a handler may follow what it sent there before, in chunks of its size; and it stands to the lane so
-- again once that was sent
abbrev pub SendsMayFollow : Type 0
SendsMayFollow =
    (m : ClientModel) (h : ℕ) (parcel : Parcel) (sent : List Parcel)
    → next_act m ≡ acts.Send h parcel → MindStandsAt m h sent
    → MayFollow m.size (is_asked false sent) parcel × MindStandsAt (next_mind m) h (sent ++ parcel ∷ [])

-- it goes on at the lanes of other handlers, and at all of them by an act that sends nothing
abbrev pub SendsKeepOtherLanes : Type 0
SendsKeepOtherLanes =
    (m : ClientModel) (g h : ℕ) (parcel : Parcel) (sent : List Parcel)
    → next_act m ≡ acts.Send g parcel → g ≢ h → MindStandsAt m h sent → MindStandsAt (next_mind m) h sent

abbrev pub QuietActsKeepLanes : Type 0
QuietActsKeepLanes =
    (m : ClientModel) (h : ℕ) (sent : List Parcel) → SendsNothing (next_act m) → MindStandsAt m h sent
    → MindStandsAt (next_mind m) h sent

-- what comes to it keeps this too: a ticket, an object, an empty chunk
abbrev pub TicketsKeepLanes : Type 0
TicketsKeepLanes =
    (m : ClientModel) (t : Ticket) (h : ℕ) (sent : List Parcel)
    → Asks m acts.Reserve → MindStandsAt m h sent → MindStandsAt (mind_after_begin m t) h sent

abbrev pub ObjectsKeepLanes : Type 0
ObjectsKeepLanes =
    (m : ClientModel) (g : ℕ) (x : HeldState) (h : ℕ) (sent : List Parcel)
    → Asks m (acts.Await g) → MindStandsAt m h sent → MindStandsAt (mind_after_object m x) h sent

abbrev pub ChunksKeepLanes : Type 0
ChunksKeepLanes =
    (m : ClientModel) (g : ℕ) (h : ℕ) (sent : List Parcel)
    → Asks m (acts.NeedChunk g) → MindStandsAt m h sent → MindStandsAt (mind_after_chunk m g) h sent

pub record ClientLaneLaws : Type 0 where
  pub begins : BeginsAtLanes
  pub sends : SendsMayFollow
  pub sends_elsewhere : SendsKeepOtherLanes
  pub quiet : QuietActsKeepLanes
  pub tickets : TicketsKeepLanes
  pub objects : ObjectsKeepLanes
  pub chunks : ChunksKeepLanes
