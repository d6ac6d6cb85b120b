-- What holds of every handler.
use Rattle.std.specs.Prelude.{◌≡◌, ◌↔◌, ℕ, IsTrue, IsSome, Some}
use Rattle.qs_objects.specs.declared.held.Next.{Next}
use Rattle.qs_chunk.specs.audit.Lanes.{is_sync}
use Rattle.qs_chunk.specs.Lanes.{may_stand}
use Rattle.qs_chunk.specs.declared.parcel.Parcel.{Parcel}
use Rattle.qs_handler.specs.audit.Handler.{Handler, act_of, gave, accept_next, accept_parcel}
use Rattle.qs_handler.specs.Handler.{with_act, is_away}
use Rattle.qs_handler.specs.declared.mind.Act.TheVariants as acts

-- what an act carries and what stays behind are the handler that it was
abbrev pub ActsLoseNothing : Type 0
ActsLoseNothing = (h : Handler) → with_act (gave h) (act_of h) ≡ h

-- it takes a ticket exactly where it asks for one, and goes on asking till it has it
abbrev pub TicketsAreAskedFor : Type 0
TicketsAreAskedFor =
    (h : Handler) (next : Next)
    → (IsSome (accept_next h next) ↔ (act_of h ≡ acts.TakeTicket)) × (act_of h ≡ acts.TakeTicket → gave h ≡ h)

-- where it asks for a parcel, it takes exactly what may stand there in a lane, and goes on asking till it has it
abbrev pub ParcelsStand : Type 0
ParcelsStand =
    (h : Handler) (client : ℕ) (parcel : Parcel)
    → act_of h ≡ acts.TakeParcel client
    → (IsSome (accept_parcel h parcel) ↔ IsTrue (may_stand (is_away h) parcel)) × (gave h ≡ h)

-- after a Sync, and only then, it is without its object once it did what the parcel asks
abbrev pub SyncsTakeTheObject : Type 0
SyncsTakeTheObject =
    (h next : Handler) (parcel : Parcel)
    → accept_parcel h parcel ≡ Some next → is_away (gave next) ≡ is_sync parcel

pub record HandlerLaws : Type 0 where
  pub nothing_lost : ActsLoseNothing
  pub tickets : TicketsAreAskedFor
  pub parcels : ParcelsStand
  pub syncs : SyncsTakeTheObject
