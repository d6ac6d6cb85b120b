-- A client's thread: what it did so far, and how that shows in its share of the desk and at its ends of lanes.
use Rattle.std.specs.Prelude.{◌≡◌, ℕ, suc, ◌+◌, ◌==◌, if◌then◌else◌, List, [], ◌∷◌, Option, Some, None, slice_index_or}
use Rattle.qs_client.specs.audit.ClientRuns.{Deed, reserves, sends, gets, takes_chunk, got_from, reservations, sent_to}
use Rattle.qs_desk.specs.Views.{ShareView}
use Rattle.qs_lane.specs.Views.{OutView}

-- the end of the lane to handler h, where there is one
abbrev pub out_lane_at : List (Option OutView) → ℕ → Option OutView
out_lane_at lanes h = slice_index_or lanes h None

-- nothing has passed, and its chunks have this size
abbrev pub IsFresh : ℕ → Option OutView → Type 0
IsFresh size None = Unit {0}
IsFresh size (Some lane) = (lane.size ≡ size) × (lane.sent ≡ []) × (lane.got ≡ [])

-- how many empty chunks it took of the lane to a handler
abbrev pub chunks_of : ℕ → List Deed → ℕ
chunks_of handler [] = 0
chunks_of handler (reserves ∷ deeds) = chunks_of handler deeds
chunks_of handler (sends h parcel ∷ deeds) = chunks_of handler deeds
chunks_of handler (gets h x ∷ deeds) = chunks_of handler deeds
chunks_of handler (takes_chunk h ∷ deeds) =
    if h == handler then suc (chunks_of handler deeds) else chunks_of handler deeds

-- an end of the lane to handler h, after these deeds: it sent, got and took what they say
abbrev pub HasDone : ℕ → List Deed → Option OutView → Option OutView → Type 0
HasDone h deeds None None = Unit {0}
HasDone h deeds None (Some after) = ⊥
HasDone h deeds (Some before) None = ⊥
HasDone h deeds (Some before) (Some after) =
    (after.name ≡ before.name) × (after.size ≡ before.size) × (after.sent ≡ sent_to h deeds)
    × (after.got ≡ got_from h deeds)
    × (after.taken ≡ before.taken + chunks_of h deeds)

-- After these deeds of client c its share has booked the blocks that they reserved, and its lanes have had what they
-- say.
pub record AreDone (c : ℕ) (start : List (Option OutView)) (deeds : List Deed) (share : ShareView)
    (lanes : List (Option OutView)) : Type 0 where
  pub booked : share ≡ record { client = c; count = reservations deeds }
  pub ends : (h : ℕ) → HasDone h deeds (out_lane_at start h) (out_lane_at lanes h)
