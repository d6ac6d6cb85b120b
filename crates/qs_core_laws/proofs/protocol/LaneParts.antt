-- The parcels of several tickets that lie in one lane, one ticket after another, are parted into these tickets again at
-- each End. So it is known what is on its way for one ticket (`CommandsInTransit`), and the lanes of a run on threads
-- are cut into blocks (`LaneCuts`). A client that has left has sent its End, by induction on what it sent; the tickets
-- are then gone through one by one.
use Rattle.std.proofs.Common.{◌≡◌, Bool, true, false, true≢false, List, [], ◌∷◌, ◌++◌, flat_map, refl, sym, ap, ◌∙◌, subst, inl, inr, ⊎_elim, rules, arith}
use Rattle.qs_played.proofs.Names.{AllByRecursion, HeldState, same, Event, Ticket, same_self, ticket_cases, Among}
use Rattle.qs_core_laws.proofs.Names.{gone, ClientLane, Parcel, lane_of, past_end, to_end}
use Rattle.qs_chunk.specs.declared.parcel.Parcel.TheVariants as parcels
use Rattle.qs_core_laws.proofs.protocol.LaneWholes.{IsCut, back_nil}

-- there is an End, and it is the last
abbrev pub IsEnded : List Parcel → Type 0
IsEnded [] = ⊥
IsEnded (parcels.End ∷ ps) = ps ≡ []
IsEnded (_ ∷ ps) = IsEnded ps

-- a client that has left has sent its end
pub gone_ended : (t : Ticket) (asked : Bool) (sent : List Parcel) (got : List HeldState) (es : List Event) → ClientLane t asked sent got es gone → IsEnded sent
gone_ended t false (parcels.Work chunk ∷ sent) got es k = gone_ended t false sent got k.0 k.3
gone_ended t false (parcels.Sync ∷ sent) got es k = gone_ended t true sent got es k
gone_ended t false (parcels.End ∷ sent) got es k = k.0
gone_ended t true [] (x ∷ got) es k = absurd (cc (k.2))
gone_ended t true (parcels.Home x ∷ sent) got es k = gone_ended t false sent k.1 k.3 k.7
gone_ended t _ (_ ∷ sent) got es k = absurd k
gone_ended t _ [] _ es k = absurd (cc (k.1))

-- what is left of it has the end
pub ended_back : (xs ys : List Parcel) → IsEnded (xs ++ ys) → (ys ≡ [] → ⊥) → IsEnded ys
ended_back [] ys k some = k
ended_back (parcels.End ∷ xs) ys k some = absurd (some (back_nil xs ys k))
ended_back (_ ∷ xs) ys k some = ended_back xs ys k some

to_end_ended : (ps rest : List Parcel) → IsEnded ps → to_end (ps ++ rest) ≡ ps
to_end_ended [] rest k = absurd k
to_end_ended (parcels.Work chunk ∷ ps) rest k = ap (λ qs. parcels.Work chunk ∷ qs) (to_end_ended ps rest k)
to_end_ended (parcels.Sync ∷ ps) rest k = ap (λ qs. parcels.Sync ∷ qs) (to_end_ended ps rest k)
to_end_ended (parcels.Home x ∷ ps) rest k = ap (λ qs. parcels.Home x ∷ qs) (to_end_ended ps rest k)
to_end_ended (parcels.End ∷ ps) rest k = ap (λ qs. parcels.End ∷ qs) (sym k)

past_end_ended : (ps rest : List Parcel) → IsEnded ps → past_end (ps ++ rest) ≡ rest
past_end_ended [] rest k = absurd k
past_end_ended (parcels.End ∷ ps) rest k = ap (λ qs. qs ++ rest) k
past_end_ended (_ ∷ ps) rest k = past_end_ended ps rest k

to_end_cut : (ps : List Parcel) → IsCut ps → to_end (ps ++ []) ≡ ps
to_end_cut [] k = refl
to_end_cut (parcels.Work chunk ∷ ps) k = ap (λ qs. parcels.Work chunk ∷ qs) (to_end_cut ps k)
to_end_cut (parcels.Sync ∷ ps) k = ap (λ qs. parcels.Sync ∷ qs) (to_end_cut ps k)
to_end_cut (parcels.Home x ∷ ps) k = ap (λ qs. parcels.Home x ∷ qs) (to_end_cut ps k)
to_end_cut (parcels.End ∷ ps) k = ap (λ qs. parcels.End ∷ qs) (sym k)

-- each ticket's parcels end at most once, and do where another ticket comes after it
abbrev pub AreCut : (Ticket → List Parcel) → List Ticket → Type 0
AreCut way [] = Unit {0}
AreCut way (u ∷ us) = IsCut (way u) × ((us ≡ [] → ⊥) → IsEnded (way u)) × AreCut way us

-- of a ticket that is none of these
pub lane_of_other : (t : Ticket) (us : List Ticket) (ps : List Parcel) → AllByRecursion (λ u. same t u ≡ false) us → lane_of t us ps ≡ []
lane_of_other t [] ps other = refl
lane_of_other t (u ∷ us) ps other = rw other.0 (lane_of_other t us (past_end ps) other.1)

-- of one of these
pub lane_of_own : (t : Ticket) (way : Ticket → List Parcel) (us : List Ticket) → AreCut way us → Among t us → lane_of t us (flat_map way us) ≡ way t
lane_of_own t way [] cut a = absurd a
lane_of_own t way (u ∷ []) cut a = search (rules, same_self, to_end_cut)
lane_of_own t way (u ∷ (v ∷ vs)) cut a =
    let ended = cut.1 (λ none. cc none) in
    let later : Among t (v ∷ vs) → lane_of t (v ∷ vs) (past_end (way u ++ flat_map way (v ∷ vs))) ≡ way t = λ b.
    ap (lane_of t (v ∷ vs)) (past_end_ended (way u) (flat_map way (v ∷ vs)) ended) ∙ lane_of_own t way (v ∷ vs) cut.2 b in
    ⊎_elim
    (λ (is : t ≡ u).
    subst (λ u. IsEnded (way u) → lane_of t (u ∷ (v ∷ vs)) (way u ++ flat_map way (v ∷ vs)) ≡ way t) is
    (λ ended. rw (same_self t) (to_end_ended (way t) (flat_map way (v ∷ vs)) ended)) ended)
    (λ (other : same t u ≡ false). rw other (elim a [ inl is ↦ absurd (true≢false (sym (subst (λ v. same t v ≡ true) is (same_self t)) ∙ other)) | inr b ↦ later b ]))
    (ticket_cases t u)
