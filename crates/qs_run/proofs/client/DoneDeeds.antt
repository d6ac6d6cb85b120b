-- One more deed of a client at the end of its run: what its ends of lanes show of it. A deed shows at one lane at most.
use Rattle.std.proofs.Common.{◌≡◌, arith, ℕ, ◌+◌, false, if◌then◌else◌, ◌==◌, List, [], ◌∷◌, ◌++◌, sym, add-zero, append-nil, Option, Some, rules}
use Rattle.qs_run.proofs.Names.{HasDone, OutView, apart_eqb, chunks_of, get_or-set_other, got_join, num_cases, out_lane_at, sent_join, slice_set}
use Rattle.qs_client.specs.audit.ClientRuns.{Deed, got_from, sent_to}
use Rattle.qs_run.proofs.ListPlaces.{set_here}

pub chunks_join : (h : ℕ) (before after : List Deed) → chunks_of h (before ++ after) ≡ chunks_of h after + chunks_of h before
chunks_join h [] after = sym (add-zero (chunks_of h after))
chunks_join h (d ∷ before) after = grind (arith, chunks_join h before after)

-- it shows nothing at this lane
abbrev pub IsElsewhere : ℕ → Deed → Type 0
IsElsewhere h d = (sent_to h (d ∷ []) ≡ []) × (got_from h (d ∷ []) ≡ []) × (chunks_of h (d ∷ []) ≡ 0)

-- an end that shows one more deed
pub record HasMore (h : ℕ) (d : Deed) (old new : OutView) : Type 0 where
  pub name : new.name ≡ old.name
  pub size : new.size ≡ old.size
  pub sent : new.sent ≡ old.sent ++ sent_to h (d ∷ [])
  pub got : new.got ≡ old.got ++ got_from h (d ∷ [])
  pub taken : new.taken ≡ old.taken + chunks_of h (d ∷ [])

one_more : (h : ℕ) (deeds : List Deed) (d : Deed) (start : Option OutView) (old new : OutView) → HasDone h deeds start (Some old) → HasMore h d old new
    → HasDone h (deeds ++ d ∷ []) start (Some new)
one_more h deeds d v old new was more = grind (arith, sent_join, got_join, chunks_join)

pub as_before : (h : ℕ) (deeds : List Deed) (d : Deed) (start now : Option OutView) → IsElsewhere h d → HasDone h deeds start now
    → HasDone h (deeds ++ d ∷ []) start now
as_before h deeds d v w none was = grind (arith, one_more, append-nil)

-- all ends after a deed that shows at the lane to handler h alone
pub at_one_lane : (start lanes lanes' : List (Option OutView)) (deeds : List Deed) (d : Deed) (h : ℕ) (old new : OutView)
    → ((a : ℕ) → HasDone a deeds (out_lane_at start a) (out_lane_at lanes a)) → out_lane_at lanes h ≡ Some old → lanes' ≡ slice_set lanes h (Some new)
    → HasMore h d old new → ((a : ℕ) → (h == a) ≡ false → IsElsewhere a d) → (a : ℕ) → HasDone a (deeds ++ d ∷ []) (out_lane_at start a) (out_lane_at lanes' a)
at_one_lane start lanes lanes' deeds d h old new ends is put more others a = search (rules, set_here, one_more, get_or-set_other, apart_eqb, as_before, num_cases)
