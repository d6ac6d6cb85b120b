-- How a count goes on: an end that is added has come in no run, as all places are before its own; and where one more
-- order came to an end, the end's times and the number of the orders at its place grow by one, and all others stay.
use Rattle.std.proofs.Common.{◌≡◌, ◌<◌, ◌≤◌, ◌+◌, ◌==◌, ℕ, zero, suc, Bool, true, false, cond, Some, List, [], ◌∷◌, ◌++◌, length, map, slice_get, slice_set, refl, sym, ap, ◌∙◌, subst, arith, inl, inr, filter}
use Rattle.qs_tally.proofs.Common.{all_zipped_more, AllByRecursion, AllZip, AllZip-long, apart_eqb, AreApart, each_map, each_snoc, eqb_apart, eqb_self, map-append, num_cases, outcome_at, outcome_of, ProgramShape, row_of, RowShape, slice_get_within, StandingShape, Ticket, two_snoc}
use Rattle.std.proofs.lemmas.List.Sums.{count_by-le-length, length-filter}
use Rattle.qs_tally.specs.Counting.{AreTabled, IsAdded, IsAtEnd, IsCounted, IsPlaced, not_yet, once_more}
use Rattle.qs_tally.specs.Tallies.{CameTo, CountedShape, IsCountOf, IsEnd, standings_in, times_of}
use Rattle.qs_tally.proofs.Places.{get_front, get_set_other, get_set_same, get_snoc, one_more, zip_map}

-- an end that is written with other times is where it was

abbrev pub standing_of : CountedShape → StandingShape
standing_of e = e.standing

pub same_standings : (ends : List CountedShape) (place : ℕ) (e : CountedShape) → slice_get ends place ≡ Some e → standings_in (slice_set ends place (once_more e)) ≡ standings_in ends
same_standings [] place e at = absurd (cc)
same_standings (x ∷ xs) zero e at = ap (λ (y : CountedShape). y.standing ∷ standings_in xs) (let is : e ≡ x = cc in is)
same_standings (x ∷ xs) (suc place) e at = ap (λ ss. x.standing ∷ ss) (same_standings xs place e at)

-- how often a place stands in the places

times_here : (k : ℕ) (places : List ℕ) → times_of k (places ++ k ∷ []) ≡ suc (times_of k places)
times_here k places = let e = one_more (λ place. place == k) places k true (eqb_self k) in omega (arith, e)

times_there : (k j : ℕ) (places : List ℕ) → (j == k) ≡ false → times_of k (places ++ j ∷ []) ≡ times_of k places
times_there k j places other = let e = one_more (λ place. place == k) places j false other in omega (arith, e)

times_past : (p : ProgramShape) (ends : List CountedShape) (orders : List (List Ticket)) (places : List ℕ) (k : ℕ) → length ends ≤ k → AllZip (CameTo p ends) orders places → times_of k places ≡ 0
times_past p ends [] [] k past met = refl
times_past p ends (o ∷ os) (j ∷ js) k past met =
    let less : j < length ends = slice_get_within ends j met.0.0 met.0.1 in
    let other : (j == k) ≡ false = eqb_apart j k (λ (e : j ≡ k). (let none : ⊥ = omega (arith, e, less, past) in none)) in
    ap (λ (b : Bool). length (cond b (j ∷ filter (λ place. place == k) js) (filter (λ place. place == k) js))) other ∙ times_past p ends os js k past met.1
times_past p ends _ _ k past met = absurd met

pub times_within : (p : ProgramShape) (orders : List (List Ticket)) (ends : List CountedShape) (k : ℕ) (e : CountedShape) → IsCountOf p orders ends → slice_get ends k ≡ Some e → e.times ≤ length orders
times_within p orders ends k e count at =
    let times : e.times ≡ times_of k count.places = count.times k e at in
    let long : length count.places ≡ length orders = AllZip-long (CameTo p ends) orders count.places count.met in
    let few = count_by-le-length (λ place. place == k) count.places in
    let by : times_of k count.places ≡ _ = length-filter (λ place. place == k) count.places in
    omega (arith, times, long, few, by)

-- an end is added

module _ (p : ProgramShape) (order : List Ticket) (orders : List (List Ticket)) (before after : List CountedShape) (count : IsCountOf p orders before) (a : IsAdded p order before after) where
  longer : standings_in (before ++ not_yet a.standing ∷ []) ≡ standings_in before ++ a.standing ∷ []
  longer = map-append standing_of before (not_yet a.standing ∷ [])

  comes : outcome_at a.standing ≡ outcome_of p order
  comes = a.is_end.outcome ∙ ap (outcome_of p) a.along

  apart : AreApart (standings_in before ++ a.standing ∷ [])
  apart = two_snoc (λ s t. outcome_at s ≡ outcome_at t) (standings_in before) a.standing count.apart
      (each_map {Q = λ s. outcome_at s ≡ outcome_at a.standing → ⊥} (λ s (other : outcome_at s ≡ outcome_of p order → ⊥) e. other (e ∙ comes)) (standings_in before) a.new)

  times : (k : ℕ) (e : CountedShape) → slice_get (before ++ not_yet a.standing ∷ []) k ≡ Some e → e.times ≡ times_of k count.places
  times k e at = elim (get_snoc before (not_yet a.standing) k e at) [
    | inl h ↦ count.times k e h
    | inr h ↦ ap (λ (x : CountedShape). x.times) h.1 ∙ sym (times_past p before orders count.places k (let is = h.0 in omega (arith, is)) count.met)
  ]

  counted_added : IsCountOf p orders after
  counted_added = subst (IsCountOf p orders) (sym a.longer) (record {
    places = count.places;
    met = zip_map (λ o k (came : CameTo p before o k). (came.0, get_front before (not_yet a.standing ∷ []) k came.0 came.1, came.2)) orders count.places count.met;
    times = times;
    apart = subst AreApart (sym longer) apart;
    sound = subst (AllByRecursion (IsEnd p)) (sym longer) (each_snoc (IsEnd p) (standings_in before) a.standing count.sound a.is_end);
  })

pub counted_placed : (p : ProgramShape) (order : List Ticket) (orders : List (List Ticket)) (place : ℕ) (before after : List CountedShape) → IsCountOf p orders before → IsPlaced p order place before after
    → IsCountOf p orders after
counted_placed p order orders place before after count placed = elim placed.either [
  | inl same ↦ subst (IsCountOf p orders) (sym same) count
  | inr added ↦ counted_added p order orders before after count added
]

-- one more order

module _ (p : ProgramShape) (order : List Ticket) (orders : List (List Ticket)) (ends : List CountedShape) (place : ℕ) (e : CountedShape) (count : IsCountOf p orders ends)
    (at : slice_get ends place ≡ Some e) (comes : outcome_at e.standing ≡ outcome_of p order) where
  abbrev pub now : List CountedShape
  now = slice_set ends place (once_more e)

  same_end : (x : CountedShape) → slice_get ends place ≡ Some x → x ≡ e
  same_end x h = let both : Some x ≡ Some e = sym h ∙ at in cc

  here : (x : CountedShape) → slice_get now place ≡ Some x → x ≡ once_more e
  here x h = let both : Some x ≡ Some (once_more e) = sym h ∙ get_set_same ends place e (once_more e) at in cc

  there : (k : ℕ) → (k == place) ≡ false → slice_get now k ≡ slice_get ends k
  there k other = get_set_other ends place k (once_more e) (apart_eqb k place other)

  came_on : (o : List Ticket) (k : ℕ) → CameTo p ends o k → CameTo p now o k
  came_on o k came = elim (num_cases k place) [
    | inl is ↦ (
      once_more e,
      subst (λ j. slice_get now j ≡ Some (once_more e)) (sym is) (get_set_same ends place e (once_more e) at),
      ap (λ (x : CountedShape). outcome_at x.standing) (sym (same_end came.0 (subst (λ j. slice_get ends j ≡ Some came.0) is came.1))) ∙ came.2,
    )
    | inr other ↦ (came.0, there k other ∙ came.1, came.2)
  ]

  times_on : (k : ℕ) (x : CountedShape) → slice_get now k ≡ Some x → x.times ≡ times_of k (count.places ++ place ∷ [])
  times_on k x h = elim (num_cases k place) [
    | inl is ↦ (let this : x ≡ once_more e = here x (subst (λ j. slice_get now j ≡ Some x) is h) in
        ap (λ (y : CountedShape). y.times) this ∙ ap suc (count.times place e at) ∙ sym (times_here place count.places)
        ∙ ap (λ j. times_of j (count.places ++ place ∷ [])) (sym is))
    | inr other ↦ count.times k x (sym (there k other) ∙ h)
        ∙ sym (times_there k place count.places (eqb_apart place k (λ (is : place ≡ k). apart_eqb k place other (sym is))))
  ]

  pub counted_more : IsCountOf p (orders ++ order ∷ []) now
  counted_more = record {
    places = count.places ++ place ∷ [];
    met = all_zipped_more (CameTo p now) orders count.places order place (zip_map came_on orders count.places count.met) (came_on order place (e, at, comes));
    times = times_on;
    apart = subst AreApart (sym (same_standings ends place e at)) count.apart;
    sound = subst (AllByRecursion (IsEnd p)) (sym (same_standings ends place e at)) count.sound;
  }

pub counted_on : (p : ProgramShape) (order : List Ticket) (orders : List (List Ticket)) (before after : List CountedShape) → IsCountOf p orders before → IsCounted p order before after
    → IsCountOf p (orders ++ order ∷ []) after
counted_on p order orders before after count c =
    let came = c.placed.came in
    subst (IsCountOf p (orders ++ order ∷ [])) (sym (c.more came.0 came.1))
    (counted_more p order orders c.between c.place came.0 (counted_placed p order orders c.place before c.between count c.placed) came.1 came.2)

-- an end that was added can be counted once more, and so can each other one
pub few_between : (p : ProgramShape) (order : List Ticket) (place : ℕ) (before between : List CountedShape) (most : ℕ) → 1 < most
    → ((k : ℕ) (e : CountedShape) → slice_get before k ≡ Some e → e.times + 1 < most) → IsPlaced p order place before between
    → (k : ℕ) (e : CountedShape) → slice_get between k ≡ Some e → e.times + 1 < most
few_between p order place before between most some few placed k e at = elim placed.either [
  | inl same ↦ few k e (subst (λ es. slice_get es k ≡ Some e) same at)
  | inr a ↦ elim (get_snoc before (not_yet a.standing) k e (subst (λ es. slice_get es k ≡ Some e) a.longer at)) [
    | inl h ↦ few k e h
    | inr h ↦ subst (λ (x : CountedShape). x.times + 1 < most) (sym h.1) (let fits : 0 + 1 < most = omega (arith, some) in fits)
  ]
]

pub tabled_more : (p : ProgramShape) (kept : List RowShape) (ends : List CountedShape) (place : ℕ) (e : CountedShape) → slice_get ends place ≡ Some e → AreTabled p kept ends → AreTabled p kept (slice_set ends place (once_more e))
tabled_more p kept ends place e at tabled = record {
  rows = tabled.rows ∙ ap (map (row_of p)) (sym (same_standings ends place e at));
  at_end = subst (AllByRecursion (IsAtEnd p)) (sym (same_standings ends place e at)) tabled.at_end;
}
