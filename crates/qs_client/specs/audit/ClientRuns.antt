-- A client's run: all that it did with others, one thing after another.
use Rattle.std.specs.Prelude.{◌≡◌, ℕ, suc, ◌==◌, if◌then◌else◌, List, [], ◌∷◌}
use Rattle.qs_objects.specs.audit.Journals.{HeldState}
use Rattle.qs_objects.specs.declared.held.Ticket.{Ticket}
use Rattle.qs_chunk.specs.declared.parcel.Parcel.{Parcel}
use Rattle.qs_client.specs.declared.rules.act.Act.TheVariants as acts
use Rattle.qs_client.specs.audit.ClientModel.{ClientModel, mind_after_begin, mind_after_chunk, mind_after_object, next_act, next_mind}

-- it reserved its next block, sent a parcel to a handler, got the object of a handler, or took an empty chunk of the
-- lane to a handler
pub data Deed : Type 0 where
  reserves : Deed
  sends : (handler : ℕ) → (parcel : Parcel) → Deed
  gets : (handler : ℕ) → (held : HeldState) → Deed
  takes_chunk : (handler : ℕ) → Deed

-- the ticket that client c reserves next
abbrev pub next_ticket : ℕ → ClientModel → Ticket
next_ticket c m = record { client = c; index = m.client.begun }

-- these deeds, each of which the mind of client c asked for, lead from one mind to another
abbrev pub DeedsLead : ℕ → ClientModel → List Deed → ClientModel → Type 0
DeedsLead c m [] end = m ≡ end
DeedsLead c m (reserves ∷ deeds) end =
    (next_act m ≡ acts.Reserve) × DeedsLead c (mind_after_begin (next_mind m) (next_ticket c (next_mind m))) deeds end
DeedsLead c m (sends h parcel ∷ deeds) end = (next_act m ≡ acts.Send h parcel) × DeedsLead c (next_mind m) deeds end
DeedsLead c m (gets h x ∷ deeds) end =
    (next_act m ≡ acts.Await h) × DeedsLead c (mind_after_object (next_mind m) x) deeds end
DeedsLead c m (takes_chunk h ∷ deeds) end =
    (next_act m ≡ acts.NeedChunk h) × DeedsLead c (mind_after_chunk (next_mind m) h) deeds end

-- and after them the mind asks for nothing more
pub record RunsTo (c : ℕ) (m : ClientModel) (deeds : List Deed) (end : ClientModel) : Type 0 where
  pub last : ClientModel
  pub deeds_lead : DeedsLead c m deeds last
  pub finished : next_act last ≡ acts.Finished
  pub end_is : end ≡ next_mind last

-- how many blocks it reserved
abbrev pub reservations : List Deed → ℕ
reservations [] = 0
reservations (reserves ∷ deeds) = suc (reservations deeds)
reservations (sends h parcel ∷ deeds) = reservations deeds
reservations (gets h x ∷ deeds) = reservations deeds
reservations (takes_chunk h ∷ deeds) = reservations deeds

-- the parcels that it sent to a handler, and the objects that it got from it
abbrev pub sent_to : ℕ → List Deed → List Parcel
sent_to handler [] = []
sent_to handler (reserves ∷ deeds) = sent_to handler deeds
sent_to handler (sends h parcel ∷ deeds) =
    if h == handler then parcel ∷ sent_to handler deeds else sent_to handler deeds
sent_to handler (gets h x ∷ deeds) = sent_to handler deeds
sent_to handler (takes_chunk h ∷ deeds) = sent_to handler deeds

abbrev pub got_from : ℕ → List Deed → List HeldState
got_from handler [] = []
got_from handler (reserves ∷ deeds) = got_from handler deeds
got_from handler (sends h parcel ∷ deeds) = got_from handler deeds
got_from handler (gets h x ∷ deeds) = if h == handler then x ∷ got_from handler deeds else got_from handler deeds
got_from handler (takes_chunk h ∷ deeds) = got_from handler deeds
