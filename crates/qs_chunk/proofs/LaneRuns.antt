-- A run of a lane, by its lists and by its steps. The one fact to count with: along parcels that stand in order a Sync
-- is followed by its Home, so there are as many of both, or one Sync more where it is the last parcel.
use Rattle.std.proofs.Common.{◌≡◌, ◌<◌, ◌≤◌, ◌+◌, ⊎_elim, ℕ, Bool, true, false, if◌then◌else◌, List, [], ◌∷◌, ◌++◌, length, refl, sym, ◌∙◌, subst, append_assoc, arith, inl, inr, length-append}
use Rattle.std.specs.Prelude.{count_by}
use Rattle.std.specs.List.{AllByRecursion}
use Rattle.std.proofs.Math.Nat.{eq-or-lt_of_le}
use Rattle.std.proofs.lemmas.List.Sums.{sum_by-append, sum_by-cons}
use Rattle.qs_objects.specs.audit.Journals.{HeldState}
use Rattle.qs_chunk.specs.audit.Lanes.{HasSize, is_asked, is_sync}
use Rattle.qs_chunk.specs.Lanes.{StandsFrom, IsLane}
use Rattle.qs_chunk.specs.audit.LaneRun.{IsLaneRun, AreServed, homes, is_home, syncs}
use Rattle.qs_chunk.specs.LaneRunLaws.{IsRunByParcels, RunsByParcels, ChunksHaveSize, NextMayStand, LaneRunLaws}
use Rattle.qs_chunk.proofs.LaneFronts.{MayFollow-last, StandsFrom-front, front_of_lane, lane_of_front}
use Rattle.qs_chunk.specs.declared.parcel.Parcel.{Parcel}
use Rattle.qs_chunk.specs.declared.parcel.Parcel.TheVariants.{Work, Sync, Home, End}

abbrev one_if : Bool → ℕ
one_if b = if b then 1 else 0

module _ (p : Parcel → Bool) where
  count-cons : (q : Parcel) (qs : List Parcel) → count_by p (q ∷ qs) ≡ one_if (p q) + count_by p qs
  count-cons q qs = sum_by-cons (λ r. one_if (p r)) q qs

  count-front : (ps qs : List Parcel) → count_by p ps ≤ count_by p (ps ++ qs)
  count-front ps qs = let parted = sum_by-append (λ r. one_if (p r)) ps qs in omega arith

-- each Sync comes home, but for the last parcel
pub come_home : (size : ℕ) (asked : Bool) (ps : List Parcel) → StandsFrom size asked ps
    → one_if asked + syncs ps ≡ homes ps + one_if (is_asked asked ps)
come_home size asked [] stands = omega arith
come_home size false (Work chunk ∷ ps) stands = come_home size false ps stands.1
come_home size false (Sync ∷ ps) stands = let n = count-cons is_sync Sync ps in let r = come_home size true ps stands.1 in omega arith
come_home size false (Home held ∷ ps) stands = absurd (cc stands.0.0)
come_home size false (End ∷ ps) stands = come_home size false ps stands.1
come_home size true (Work chunk ∷ ps) stands = absurd (cc stands.0.0)
come_home size true (Sync ∷ ps) stands = absurd (cc stands.0.0)
come_home size true (Home held ∷ ps) stands = let n = count-cons is_home (Home held) ps in let r = come_home size false ps stands.1 in omega arith
come_home size true (End ∷ ps) stands = absurd (cc stands.0.0)

sizes_of : (size : ℕ) (asked : Bool) (ps : List Parcel) → StandsFrom size asked ps → AllByRecursion (HasSize size) ps
sizes_of size asked [] stands = tt
sizes_of size asked (p ∷ ps) stands = (stands.0.1, sizes_of size (is_sync p) ps stands.1)

-- what was sent stands in order, and so does what was received
pub sent_stands : (size : ℕ) (sent received : List Parcel) (given got : List HeldState) → IsLaneRun size sent received given got → IsLane size sent
sent_stands size sent received given got run =
    let f = run.form in
    lane_of_front size sent (f.1.0, (f.2.0, f.1.1 ∙ f.2.1, subst (AllByRecursion (HasSize size)) (sym f.1.1) f.2.2))

pub received_stands : (size : ℕ) (sent received : List Parcel) (given got : List HeldState) → IsLaneRun size sent received given got → IsLane size received
received_stands size sent received given got run =
    let p = run.parcels in
    StandsFrom-front size false received p.0 (subst (IsLane size) (sym p.1) (sent_stands size sent received given got run))

-- by whether the last parcel is a Sync
served_by : (received : List Parcel) (given : List HeldState) (last : Bool) → is_asked false received ≡ last
    → length given ≤ syncs received → syncs received ≤ length given + one_if last → AreServed received given
served_by received given false is few most = inl (omega arith)
served_by received given true is few most =
    ⊎_elim (λ (all : length given ≡ syncs received). inl all) (λ (less : length given < syncs received). inr (is, omega arith))
    (eq-or-lt_of_le few)

-- along parcels that stand in order, what went home says how many were given
served_where_home : (size : ℕ) (sent received : List Parcel) (given got : List HeldState) → IsRunByParcels size sent received given got
    → homes sent ≤ length got → AreServed received given
served_where_home size sent received given got r home =
    let stands : IsLane size received = StandsFrom-front size false received r.parcels.0 (subst (IsLane size) r.parcels.1 r.form) in
    let count = come_home size false received stands in
    let sent_home : homes received ≤ homes sent = subst (λ qs. homes received ≤ homes qs) (sym r.parcels.1) (count-front is_home received r.parcels.0) in
    let objects : length got ≤ length given = subst (λ gs. length got ≤ length gs) (sym r.objects.1) (omega (arith, length-append got r.objects.0)) in
    let few = r.served in
    served_by received given (is_asked false received) refl few (omega arith)

-- a run, from what its steps keep
pub run_of : (size : ℕ) (sent received : List Parcel) (given got : List HeldState) → IsRunByParcels size sent received given got
    → IsLaneRun size sent received given got
run_of size sent received given got r =
    let f = front_of_lane size sent r.form in record {
      parcels = (r.parcels.0, sym r.parcels.1);
      form = (sent ++ f.0, (f.0, refl), f.1);
      objects = (r.objects.0, sym r.objects.1);
      asked = r.served;
      served = served_where_home size sent received given got r;
    }

steps_of : (size : ℕ) (sent received : List Parcel) (given got : List HeldState) → IsLaneRun size sent received given got
    → IsRunByParcels size sent received given got
steps_of size sent received given got run = record {
  parcels = (run.parcels.0, sym run.parcels.1);
  form = sent_stands size sent received given got run;
  objects = (run.objects.0, sym run.objects.1);
  served = run.asked;
}

by_parcels : RunsByParcels
by_parcels size sent received given got = (steps_of size sent received given got, run_of size sent received given got)

sizes : ChunksHaveSize
sizes size sent received given got run = (
  sizes_of size false sent (sent_stands size sent received given got run),
  sizes_of size false received (received_stands size sent received given got run),
)

next_may_stand : NextMayStand
next_may_stand size received rest next given got run =
    let sent = received ++ next ∷ rest in
    let s = steps_of size sent received given got run in
    let parted : sent ≡ (received ++ next ∷ []) ++ rest = sym (append_assoc received (next ∷ []) rest) in
    let stands : IsLane size (received ++ next ∷ []) = StandsFrom-front size false (received ++ next ∷ []) rest (subst (IsLane size) parted s.form) in (
      MayFollow-last size false received next stands,
      run_of size sent (received ++ next ∷ []) given got (record {
        parcels = (rest, parted);
        form = s.form;
        objects = s.objects;
        served = let few = s.served in let more = count-front is_sync received (next ∷ []) in omega arith;
      }),
    )

pub lane_run_laws : LaneRunLaws
lane_run_laws = record { by_parcels = by_parcels; sizes = sizes; next = next_may_stand }
