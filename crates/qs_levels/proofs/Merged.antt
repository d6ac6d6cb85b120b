-- Parts of a level, one for each share, are merged by their leads. A lead that is less gives an order that is before,
-- and two parts have no lead in common, as each is in the share of one; so what is taken is before all that is left.
-- What was taken and what is left are together what all parts had: nothing is lost, and whatever holds of what the
-- parts had holds of what was merged.
use Rattle.std.proofs.Common.{◌≡◌, ◌<◌, ◌+◌, ◌%◌, ◌&&◌, ℕ, zero, suc, true, List, [], ◌∷◌, ◌++◌, length, get_or, take, drop, map, flat_map, replicate, slice_index_or, refl, sym, ap, ap₂, ◌∙◌, subst, arith, ◌⊎◌, inl, inr, Some, get_or-set_same, get_or-set_other}
use Rattle.qs_levels.proofs.Common.{AllByRecursion, and_cases, append-nil, AreSorted, before_both, before_longer, before_onward, below_or_past, cases_eq, Configuration, configuration_in, drop-cons, each_both, each_front, each_join, each_map, each_snoc, EachTwo, eqb_self, eqb_true, fork, get_or-append_seam, get_or_append_left, goes_left, goes_on, GoesOn, has_back, has_front, has_map, has_some, HasOne, in_byte, in_program, IsBefore, IsLongerBy, IsNext, IsSound, IsStanding, length-append, length-drop, length-set, length-take-le, no_state, not_before, one_block_on, pairs_front, pairs_join, ProgramShape, same_list, slice_set, StandingShape, take-append-drop, Ticket, zeros}
use Rattle.qs_levels.proofs.Common.{AreDistinct, Found, found_in, level_in, no_found, no_standing, standing_at, HasMoreOnward, IsOneLonger, IsReached, StandsFor, order_on, IsLead, IsPartOf, leads}
use Rattle.qs_levels.proofs.Common.{leads_below, IsNextOf, AreParts, IsLeastPart, IsLess, IsNoMore, IsNoMoreThanFirst, first_lead, rests_of, spot_of, AreGoing, IsGoing, is_taken, mark_of, weight}
use Rattle.qs_levels.proofs.Common.{Going, rules}
use Rattle.indexmap.proofs.SetLemmas.{AllZip-push}
use Rattle.qs_outcomes.proofs.Mapped.{each_mapped}
use Rattle.qs_levels.specs.declared.level.Spot.{Spot}
use Rattle.qs_levels.proofs.meaning.Lists.{all_among, each_at, map_snoc, mapped_has, two_of}
use Rattle.qs_levels.proofs.NextLevels.{among_below, each_lead, kept_distinct, kept_onward, lead_each, one_longer, taken_goes}
use Rattle.qs_levels.proofs.meaning.Weights.{weighted_more}

-- ---- lists of lists

-- what holds of each of each list holds of each of all
each_flat : {X Y : Type 0} (P : Y → Type 0) (g : X → List Y) (xs : List X) (d : X) → ((i : ℕ) → i < length xs → AllByRecursion P (g (get_or xs i d))) → AllByRecursion P (flat_map g xs)
each_flat P g [] d each = tt
each_flat P g (x ∷ xs) d each = each_join P (g x) (flat_map g xs) (each 0 (omega arith)) (each_flat P g xs d (λ i less. each (suc i) (omega (arith, less))))

-- one of one of the lists is one of all
flat_has : {X Y : Type 0} (P : Y → Type 0) (g : X → List Y) (xs : List X) (d : X) (i : ℕ) → i < length xs → HasOne P (g (get_or xs i d)) → HasOne P (flat_map g xs)
flat_has P g [] d i less h = absurd (omega (arith, less))
flat_has P g (x ∷ xs) d zero less h = has_front P (g x) (flat_map g xs) h
flat_has P g (x ∷ xs) d (suc i) less h = has_back P (g x) (flat_map g xs) (flat_has P g xs d i (omega (arith, less)) h)

-- of a mapped list
mapped_each : {X Y : Type 0} (f : X → Y) (P : Y → Type 0) (xs : List X) → AllByRecursion P (map f xs) → AllByRecursion (λ x. P (f x)) xs
mapped_each f P [] h = tt
mapped_each f P (x ∷ xs) h = (h.0, mapped_each f P xs h.1)

mapped_two : {X Y : Type 0} (f : X → Y) (R : Y → Y → Type 0) (xs : List X) → EachTwo R (map f xs) → EachTwo (λ x y. R (f x) (f y)) xs
mapped_two f R [] h = tt
mapped_two f R (x ∷ xs) h = (mapped_each f (R (f x)) xs h.0, mapped_two f R xs h.1)

-- In a list whose elements are in a relation two by two, whoever comes before another in an order that the list follows
-- is in the relation to it, where the relation holds both ways.
two_by_order : {X : Type 0} (R B : X → X → Type 0) → ((x y : X) → R x y → R y x) → ((x : X) → B x x → ⊥)
    → (xs : List X) → EachTwo R xs → AllByRecursion (λ x. AllByRecursion (λ y. B x y → R x y) xs) xs
two_by_order R B both never [] two = tt
two_by_order {X = X} R B both never (x ∷ xs) two = (
  ((λ b. absurd (never x b)), each_map {P = R x} {Q = λ y. B x y → R x y} (λ y r b. r) xs two.0),
  each_both {P = R x} {Q = λ y. AllByRecursion (λ z. B y z → R y z) xs} {R = λ y. AllByRecursion (λ z. B y z → R y z) (x ∷ xs)} (λ y r rest. ((λ b. both x y r), rest)) xs two.0
      (two_by_order R B both never xs two.1),
)

never_before : (ts : List Ticket) → IsBefore ts ts → ⊥
never_before ts h = not_before ts [] (subst (λ us. IsBefore us ts) (sym (append-nil ts)) h)

-- ---- leads and orders

-- the next block of a client leads to one standing
next_alone : (p : ProgramShape) (front : List Ticket) (s : StandingShape) (c : ℕ) (m n : StandingShape) → IsNext p front s c m → IsNext p front s c n → m ≡ n
next_alone p front s c m n a b =
    let g : configuration_in m ≡ configuration_in n = a.next ∙ sym b.next in
    let order : m.order ≡ n.order = a.order ∙ sym b.order in
    let begun : m.begun ≡ n.begun = same_list 0 m.begun n.begun (a.standing.begun ∙ sym b.standing.begun) (λ i. ap (λ (g : Configuration). g.begun i) g) in
    let locals : m.locals ≡ n.locals = same_list zeros m.locals n.locals (a.standing.locals ∙ sym b.standing.locals) (λ i. ap (λ (g : Configuration). g.locals i) g) in
    let states : m.states ≡ n.states = same_list no_state m.states n.states (a.standing.states ∙ sym b.standing.states) (λ i. ap (λ (g : Configuration). g.states i) g) in
    λ i. record { order = order i; begun = begun i; locals = locals i; states = states i }

module _ (p : ProgramShape) (front : List Ticket) (level : List StandingShape) (sorted : AreSorted level) where
  -- the place from which a lead leads
  abbrev at : ℕ → StandingShape
  at k = slice_index_or level k no_standing

  -- a lead is in the share of the configuration to which it leads
  in_share : (number count : ℕ) (f : Found) → IsLead p front number count level f → (mark_of p (configuration_in f.standing).begun) % count ≡ number
  in_share number count f lead =
      let s = at f.lead.source in
      let more : mark_of p (one_block_on p f.lead.client (configuration_in s)).begun ≡ mark_of p (configuration_in s).begun + weight f.lead.client =
      weighted_more weight (length p.clients) f.lead.client (configuration_in s).begun
      (in_program p s f.lead.client (goes_left p s f.lead.client (taken_goes p number count s f.lead.client lead.taken))) in
      ap (λ (g : Configuration). mark_of p g.begun % count) lead.next.next ∙ (ap (λ m. m % count) more ∙ eqb_true _ _ (and_cases _ _ lead.taken).1)

  sorted_at : (ss : List StandingShape) (i j : ℕ) → AreSorted ss → i < j → j < length ss → IsBefore (slice_index_or ss i no_standing).order (slice_index_or ss j no_standing).order
  sorted_at (s ∷ ss) zero (suc j) two less within = each_at (λ t. IsBefore s.order t.order) ss j no_standing (omega (arith, within)) two.0
  sorted_at (s ∷ ss) (suc i) (suc j) two less within = sorted_at ss i j two.1 (omega (arith, less)) (omega (arith, within))
  sorted_at _ _ _ two less within = absurd (omega (arith, less, within))

  -- of leads of two shares, the less one gives the order that is before
  module _ (i j count : ℕ) (f g : Found) (a : IsLead p front i count level f) (b : IsLead p front j count level g) where
    less_before : IsLess f.lead g.lead → IsBefore f.standing.order g.standing.order
    less_before (inl less) = rw (a.next.order, b.next.order) (before_longer _ _ _ (before_onward _ _ _ (sorted_at level f.lead.source g.lead.source sorted less b.within)))
    less_before (inr (same, less)) =
        rw (a.next.order, b.next.order) (subst (λ k. IsBefore (order_on (at f.lead.source) f.lead.client) (order_on (at k) g.lead.client)) same (fork (at f.lead.source).order _ _ less))

    same_share : f.lead.source ≡ g.lead.source → f.lead.client ≡ g.lead.client → i ≡ j
    same_share source client =
        let other : IsNext p front (at f.lead.source) f.lead.client g.standing =
        subst (λ c. IsNext p front (at f.lead.source) c g.standing) (sym client) (subst (λ k. IsNext p front (at k) g.lead.client g.standing) (sym source) b.next) in
        let one : f.standing ≡ g.standing = next_alone p front (at f.lead.source) f.lead.client f.standing g.standing a.next other in
        sym (in_share i count f a) ∙ (ap (λ (n : StandingShape). mark_of p (configuration_in n).begun % count) one ∙ in_share j count g b)

    no_more_before : (i ≡ j → ⊥) → IsNoMore f.lead g.lead → IsBefore f.standing.order g.standing.order
    no_more_before apart (inl less) = less_before less
    no_more_before apart (inr (source, client)) = absurd (apart (same_share source client))

-- ---- what is left and what was taken

-- something that is left: its lead, that all parts had it, and that all that was taken is before it
pub record IsYet (p : ProgramShape) (front : List Ticket) (number count : ℕ) (level had all : List StandingShape) (f : Found) : Type 0 where
  pub lead : IsLead p front number count level f
  pub known : in_byte f.going ≡ goes_on p (configuration_in f.standing).begun
  pub among : HasOne (λ u. u ≡ f.standing) had
  pub ahead : AllByRecursion (λ (a : StandingShape). IsBefore a.order f.standing.order) all

-- what is left of a part
pub record IsLeft (p : ProgramShape) (front : List Ticket) (number count : ℕ) (level had all : List StandingShape) (fs : List Found) : Type 0 where
  pub each : AllByRecursion (IsYet p front number count level had all) fs
  pub sorted : EachTwo (λ (f g : Found). IsBefore f.standing.order g.standing.order) fs

-- it stands in one of the parts
abbrev pub IsLeftIn : List (List Found) → StandingShape → Type 0
IsLeftIn parts u = (i : ℕ) × (i < length parts) × HasOne (λ (f : Found). f.standing ≡ u) (slice_index_or parts i [])

-- What all parts had was taken, or is left.
pub record IsMerging (p : ProgramShape) (front : List Ticket) (count : ℕ) (level had : List StandingShape) (parts : List (List Found)) (all : List StandingShape) (gs : List Going) : Type 0 where
  pub long : length parts ≡ count
  pub left : (i : ℕ) → i < count → IsLeft p front i count level had all (slice_index_or parts i [])
  pub among : AllByRecursion (λ a. HasOne (λ u. u ≡ a) had) all
  pub sorted : AreSorted all
  pub none_lost : AllByRecursion (λ u. HasOne (λ a. a ≡ u) all ⊎ IsLeftIn parts u) had
  pub going : AreGoing p count all gs

-- all that parts have
abbrev pub all_in : List (List Found) → List StandingShape
all_in parts = flat_map found_in parts

pub merging_begins : (p : ProgramShape) (front : List Ticket) (level : List StandingShape) (parts : List (List Found)) → AreParts p front level parts
    → IsMerging p front (length parts) level (all_in parts) parts [] []
merging_begins p front level parts are = record {
  long = refl;
  left = λ i less.
      let part = slice_index_or parts i [] in
      record {
        each = each_both {P = λ f. IsLead p front i (length parts) level f × (in_byte f.going ≡ goes_on p (configuration_in f.standing).begun)} {Q = λ (f : Found). HasOne (λ u. u ≡ f.standing) (all_in parts)}
            {R = IsYet p front i (length parts) level (all_in parts) []}
            (λ f lead here. record { lead = lead.0; known = lead.1; among = here; ahead = tt }) part (each_both (λ f lead known. (lead, known)) part (are i less).by_lead (are i less).known)
            (each_map {P = λ (f : Found). HasOne (λ g. g ≡ f) part} {Q = λ (f : Found). HasOne (λ u. u ≡ f.standing) (all_in parts)}
            (λ f h. flat_has (λ u. u ≡ f.standing) found_in parts [] i less (mapped_has (λ (g : Found). g.standing) (λ u. u ≡ f.standing) part (has_map (λ g (e : g ≡ f). ap (λ (x : Found). x.standing) e) part h)))
            part (all_among part));
        sorted = mapped_two (λ (f : Found). f.standing) (λ s t. IsBefore s.order t.order) part (are i less).kept.sorted;
      };
  among = tt;
  sorted = tt;
  none_lost = each_flat (λ u. HasOne (λ a. a ≡ u) [] ⊎ IsLeftIn parts u) found_in parts []
      (λ i less.
      let part = slice_index_or parts i [] in
      each_mapped {P = λ (f : Found). HasOne (λ g. g ≡ f) part} (λ u. HasOne (λ a. a ≡ u) [] ⊎ IsLeftIn parts u) (λ (f : Found). f.standing)
      (λ f h. inr (i, less, has_map (λ g (e : g ≡ f). ap (λ (x : Found). x.standing) e) part h)) part (all_among part));
  going = tt;
}

-- ---- a standing more is taken

module _ (p : ProgramShape) (front : List Ticket) (count : ℕ) (level had : List StandingShape) (parts : List (List Found)) (all : List StandingShape) (gs : List Going) (level_sorted : AreSorted level)
    (m : IsMerging p front count level had parts all gs) (k : ℕ) (within : k < length parts) (f : Found) (fs : List Found) (here : slice_index_or parts k [] ≡ f ∷ fs)
    (least : (i : ℕ) → i < length parts → IsNoMoreThanFirst f.lead (first_lead (slice_index_or parts i []))) where
  abbrev all_now : List StandingShape
  all_now = all ++ f.standing ∷ []

  in_count : k < count
  in_count = (let l = m.long in omega (arith, l, within))

  left_here : IsLeft p front k count level had all (f ∷ fs)
  left_here = subst (IsLeft p front k count level had all) here (m.left k in_count)

  -- what is left of a part, once all of it is known to be behind what is taken
  left_behind : (i : ℕ) (gs : List Found) → IsLeft p front i count level had all gs → AllByRecursion (λ (g : Found). IsBefore f.standing.order g.standing.order) gs
      → IsLeft p front i count level had all_now gs
  left_behind i gs left behind = record {
    each = each_both {P = IsYet p front i count level had all} {Q = λ (g : Found). IsBefore f.standing.order g.standing.order} {R = IsYet p front i count level had all_now}
        (λ g yet b. record { lead = yet.lead; known = yet.known; among = yet.among; ahead = each_snoc (λ (a : StandingShape). IsBefore a.order g.standing.order) all f.standing yet.ahead b }) gs left.each behind;
    sorted = left.sorted;
  }

  -- another part is behind, as its first lead is more
  other_behind : (i : ℕ) → (i ≡ k → ⊥) → (gs : List Found) → IsLeft p front i count level had all gs → IsNoMoreThanFirst f.lead (first_lead gs)
      → AllByRecursion (λ (g : Found). IsBefore f.standing.order g.standing.order) gs
  other_behind i apart [] left no_more = tt
  other_behind i apart (g ∷ gs) left no_more =
      let first : IsBefore f.standing.order g.standing.order =
      no_more_before p front level level_sorted k i count f g left_here.each.0.lead left.each.0.lead (λ e. apart (sym e)) no_more in (
        first,
        each_map {P = λ (h : Found). IsBefore g.standing.order h.standing.order} {Q = λ (h : Found). IsBefore f.standing.order h.standing.order}
            (λ h b. before_both f.standing.order g.standing.order h.standing.order first b) gs left.sorted.0,
      )

  left_now : (i : ℕ) → i < count → IsLeft p front i count level had all_now (slice_index_or (slice_set parts k fs) i [])
  left_now i less = elim (cases_eq i k) [
    | inl same ↦
        subst (λ j. IsLeft p front j count level had all_now (slice_index_or (slice_set parts k fs) j [])) (sym same)
        (subst (IsLeft p front k count level had all_now) (sym (get_or-set_same parts k fs [] within))
        (left_behind k fs (record { each = left_here.each.1; sorted = left_here.sorted.1 }) left_here.sorted.0))
    | inr apart ↦
        subst (IsLeft p front i count level had all_now) (sym (get_or-set_other parts k i fs [] apart))
        (left_behind i (slice_index_or parts i []) (m.left i less) (other_behind i apart (slice_index_or parts i []) (m.left i less) (least i (let l = m.long in omega (arith, l, less)))))
  ]

  -- nothing is lost
  kept_there : (u : StandingShape) → HasOne (λ a. a ≡ u) all ⊎ IsLeftIn parts u → HasOne (λ a. a ≡ u) all_now ⊎ IsLeftIn (slice_set parts k fs) u
  kept_there u (inl taken) = inl (has_front (λ a. a ≡ u) all (f.standing ∷ []) taken)
  kept_there u (inr (i, less, h)) = elim (cases_eq i k) [
    | inl same ↦ by_place (subst (HasOne (λ (g : Found). g.standing ≡ u)) (ap (λ j. slice_index_or parts j []) same ∙ here) h)
    | inr apart ↦ inr (i, (let l = length-set parts k fs in omega (arith, l, less)), subst (HasOne (λ (g : Found). g.standing ≡ u)) (sym (get_or-set_other parts k i fs [] apart)) h)
  ]
    where
      by_place : HasOne (λ (g : Found). g.standing ≡ u) (f ∷ fs) → HasOne (λ a. a ≡ u) all_now ⊎ IsLeftIn (slice_set parts k fs) u
      by_place (inl e) = inl (has_back (λ a. a ≡ u) all (f.standing ∷ []) (inl e))
      by_place (inr later) = inr (k, (let l = length-set parts k fs in omega (arith, l, within)), subst (HasOne (λ (g : Found). g.standing ≡ u)) (sym (get_or-set_same parts k fs [] within)) later)

  pub merging_goes_on : IsMerging p front count level had (slice_set parts k fs) (all ++ f.standing ∷ []) (gs ++ record { clients = f.going; share = k } ∷ [])
  merging_goes_on = record {
    long = length-set parts k fs ∙ m.long;
    left = left_now;
    among = each_snoc (λ a. HasOne (λ u. u ≡ a) had) all f.standing m.among left_here.each.0.among;
    sorted = pairs_join (λ (s t : StandingShape). IsBefore s.order t.order) all (f.standing ∷ []) m.sorted (tt, tt)
        (each_map {P = λ (a : StandingShape). IsBefore a.order f.standing.order} {Q = λ (a : StandingShape). AllByRecursion (λ (t : StandingShape). IsBefore a.order t.order) (f.standing ∷ [])}
        (λ a b. (b, tt)) all left_here.each.0.ahead);
    none_lost = each_map (λ u h. kept_there u h) had m.none_lost;
    going = AllZip-push (IsGoing p count) all gs f.standing (record { clients = f.going; share = k }) m.going
        (record { clients = left_here.each.0.known; share = sym (in_share p front level level_sorted k count f left_here.each.0.lead) });
  }

-- how many are left
abbrev pub left_in : List (List Found) → ℕ
left_in [] = 0
left_in (fs ∷ parts) = length fs + left_in parts

pub fewer_left : (parts : List (List Found)) (k : ℕ) (f : Found) (fs : List Found) → k < length parts → slice_index_or parts k [] ≡ f ∷ fs → left_in (slice_set parts k fs) < left_in parts
fewer_left [] k f fs less here = absurd (omega (arith, less))
fewer_left (gs ∷ parts) zero f fs less here = let e : length gs ≡ suc (length fs) = ap length here in omega (arith, e)
fewer_left (gs ∷ parts) (suc k) f fs less here = let later = fewer_left parts k f fs (omega (arith, less)) here in omega (arith, later)

-- ---- all was taken

module _ (p : ProgramShape) (front : List Ticket) (sound : IsSound p) (level : List StandingShape) (level_sorted : AreSorted level) (parts : List (List Found)) (some : 0 < length parts) (are : AreParts p front level parts) where
  abbrev had : List StandingShape
  had = all_in parts

  abbrev part : ℕ → List Found
  part i = slice_index_or parts i []

  -- what holds of what each part keeps
  each_had : (P : StandingShape → Type 0) → ((i : ℕ) → i < length parts → AllByRecursion P (found_in (part i))) → AllByRecursion P had
  each_had P each = each_flat P found_in parts [] each

  had_onward : AllByRecursion (λ n. HasOne (λ s. IsOneLonger s n) level) had
  had_onward = each_had (λ n. HasOne (λ s. IsOneLonger s n) level)
      (λ i less. kept_onward p front level (leads p i (length parts) level) (found_in (part i))
      (each_lead (λ o. HasOne (λ d. (ticket : Ticket) × IsLongerBy d.order (ticket ∷ []) o) level) p i (length parts) level (one_longer p level)) (are i less).kept)

  -- the share of what a part keeps
  had_share : (i : ℕ) → i < length parts → AllByRecursion (λ n. mark_of p (configuration_in n).begun % length parts ≡ i) (found_in (part i))
  had_share i less = each_mapped (λ n. mark_of p (configuration_in n).begun % length parts ≡ i) (λ (f : Found). f.standing)
      (λ f (lead : IsLead p front i (length parts) level f). in_share p front level level_sorted i (length parts) f lead) (part i) (are i less).by_lead

  -- no two that stand apart in their orders are one configuration
  abbrev IsApart : StandingShape → StandingShape → Type 0
  IsApart x y = IsBefore x.order y.order → configuration_in x ≡ configuration_in y → ⊥

  had_apart : AllByRecursion (λ x. AllByRecursion (IsApart x) had) had
  had_apart = each_had (λ x. AllByRecursion (IsApart x) had)
      (λ i less. each_swap IsApart (found_in (part i)) had (each_had (λ y. AllByRecursion (λ x. IsApart x y) (found_in (part i))) (λ j within. by_shares i j less within)))
    where
      each_swap : (R : StandingShape → StandingShape → Type 0) (xs ys : List StandingShape) → AllByRecursion (λ y. AllByRecursion (λ x. R x y) xs) ys → AllByRecursion (λ x. AllByRecursion (R x) ys) xs
      each_swap R [] ys h = tt
      each_swap R (x ∷ xs) ys h = (each_map (λ y w. w.0) ys h, each_swap R xs ys (each_map (λ y w. w.1) ys h))

      one_part : (i : ℕ) → i < length parts → AllByRecursion (λ x. AllByRecursion (λ y. IsBefore x.order y.order → configuration_in x ≡ configuration_in y → ⊥) (found_in (part i))) (found_in (part i))
      one_part i less = two_by_order (λ x y. configuration_in x ≡ configuration_in y → ⊥) (λ x y. IsBefore x.order y.order) (λ x y other e. other (sym e)) (λ (x : StandingShape) (b : IsBefore x.order x.order). never_before x.order b)
          (found_in (part i)) (kept_distinct p front (leads p i (length parts) level) (found_in (part i)) (are i less).kept)

      other_parts : (i j : ℕ) → (i ≡ j → ⊥) → i < length parts → j < length parts → AllByRecursion (λ y. AllByRecursion (λ x. IsApart x y) (found_in (part i))) (found_in (part j))
      other_parts i j apart less within = each_map {P = λ y. mark_of p (configuration_in y).begun % length parts ≡ j} {Q = λ y. AllByRecursion (λ x. IsApart x y) (found_in (part i))}
          (λ y here. each_map {P = λ x. mark_of p (configuration_in x).begun % length parts ≡ i} {Q = λ x. IsApart x y}
          (λ x there before e. apart (sym there ∙ (ap (λ (g : Configuration). mark_of p g.begun % length parts) e ∙ here))) (found_in (part i)) (had_share i less))
          (found_in (part j)) (had_share j within)

      by_shares : (i j : ℕ) → i < length parts → j < length parts → AllByRecursion (λ y. AllByRecursion (λ x. IsApart x y) (found_in (part i))) (found_in (part j))
      by_shares i j less within = elim (cases_eq i j) [
        | inl same ↦ subst (λ k. AllByRecursion (λ y. AllByRecursion (λ x. IsApart x y) (found_in (part i))) (found_in (part k))) same (each_swap (λ y x. IsApart x y) (found_in (part i)) (found_in (part i)) (one_part i less))
        | inr apart ↦ other_parts i j apart less within
      ]

  -- wherever a client leads who goes on, one of a part stands by an order that is no later
  had_reached : AllByRecursion (λ s. (c : ℕ) → GoesOn p s c → IsReached p had (order_on s c)) level
  had_reached = turned level (λ i less. lead_each (IsReached p (found_in (part i))) p i (length parts) level (are i less).kept.reached)
    where
      here : (s : StandingShape) → ((i : ℕ) → i < length parts → AllByRecursion (IsReached p (found_in (part i))) (leads_below p i (length parts) s (length p.clients)))
          → (c : ℕ) → GoesOn p s c → IsReached p had (order_on s c)
      here s each c goes =
          let i = (mark_of p (configuration_in s).begun + weight c) % length parts in
          let less : i < length parts = omega (arith, some) in
          let taken : is_taken p i (length parts) s c ≡ true = ap₂ (λ x y. x && y) goes (eqb_self i) in
          flat_has (StandsFor p (order_on s c)) found_in parts [] i less
          (among_below (IsReached p (found_in (part i))) p i (length parts) s c (length p.clients) (in_program p s c (goes_left p s c goes)) taken (each i less))

      turned : (ss : List StandingShape) → ((i : ℕ) → i < length parts → AllByRecursion (λ s. AllByRecursion (IsReached p (found_in (part i))) (leads_below p i (length parts) s (length p.clients))) ss)
          → AllByRecursion (λ s. (c : ℕ) → GoesOn p s c → IsReached p had (order_on s c)) ss
      turned [] each = tt
      turned (s ∷ ss) each = (here s (λ i less. (each i less).0), turned ss (λ i less. (each i less).1))

  pub merging_ends : (rests : List (List Found)) (all : List StandingShape) (gs : List Going) → IsMerging p front (length parts) level had rests all gs → ((i : ℕ) → i < length rests → slice_index_or rests i [] ≡ [])
      → IsNextOf p front level all
  merging_ends rests all gs m empty = record {
    standing = of_had (IsStanding p front) (each_had (IsStanding p front) (λ i less. (are i less).kept.standing));
    onward = of_had (λ n. HasOne (λ s. IsOneLonger s n) level) had_onward;
    once = two_of {Q = λ x. AllByRecursion (IsApart x) had × HasOne (λ u. u ≡ x) had} (λ s t. IsBefore s.order t.order) (λ s t. configuration_in s ≡ configuration_in t → ⊥)
        (λ s t a b before e. has_some (λ u (same : u ≡ t) (apart : IsApart s u). apart (subst (λ (n : StandingShape). IsBefore s.order n.order) (sym same) before) (e ∙ ap configuration_in (sym same))) had b.1 a.0)
        all (each_both (λ x a b. (a, b)) all (of_had (λ x. AllByRecursion (IsApart x) had) had_apart) m.among) m.sorted;
    sorted = m.sorted;
    reached = each_map {Q = λ s. (c : ℕ) → GoesOn p s c → IsReached p all (order_on s c)} (λ s (h : (c : ℕ) → GoesOn p s c → IsReached p had (order_on s c)) c goes.
        has_some (λ u (stands : StandsFor p (order_on s c) u) (there : HasOne (λ a. a ≡ u) all). has_map (λ a (e : a ≡ u). subst (StandsFor p (order_on s c)) (sym e) stands) all there) had (h c goes) none_left) level had_reached;
  }
    where
      of_had : (P : StandingShape → Type 0) → AllByRecursion P had → AllByRecursion P all
      of_had P each = each_map {P = λ a. HasOne (λ u. u ≡ a) had} {Q = P} (λ a h. has_some (λ u (e : u ≡ a) (x : P u). subst P e x) had h each) all m.among

      none_left : AllByRecursion (λ u. HasOne (λ a. a ≡ u) all) had
      none_left = each_map (λ u h. by_case u h) had m.none_lost
        where
          by_case : (u : StandingShape) → HasOne (λ a. a ≡ u) all ⊎ IsLeftIn rests u → HasOne (λ a. a ≡ u) all
          by_case u (inl taken) = taken
          by_case u (inr (i, less, h)) = absurd (subst (HasOne (λ (f : Found). f.standing ≡ u)) (empty i less) h)

-- more than there is room for
pub more_onward : (p : ProgramShape) (front : List Ticket) (level next : List StandingShape) (room : ℕ) → IsNextOf p front level next → room < length next → HasMoreOnward p front level room
more_onward p front level next room led more =
    let whole : take (suc room) next ++ drop (suc room) next ≡ next = take-append-drop (suc room) next in
    record {
      configurations = take (suc room) next;
      different = record {
        count = length-take-le (suc room) next (omega (arith, more));
        reached = each_front (IsStanding p front) (take (suc room) next) (drop (suc room) next) (subst (AllByRecursion (IsStanding p front)) (sym whole) led.standing);
        different = pairs_front (λ s t. configuration_in s ≡ configuration_in t → ⊥) (take (suc room) next) (drop (suc room) next) (subst AreDistinct (sym whole) led.once);
      };
      onward = each_front (λ n. HasOne (λ s. IsOneLonger s n) level) (take (suc room) next) (drop (suc room) next)
          (subst (AllByRecursion (λ n. HasOne (λ s. IsOneLonger s n) level)) (sym whole) led.onward);
    }

-- a part more
pub parts_more : (p : ProgramShape) (front : List Ticket) (level : List StandingShape) (count : ℕ) (parts : List (List Found)) (new : List Found)
    → ((i : ℕ) → i < length parts → IsPartOf p front i count level (slice_index_or parts i [])) → IsPartOf p front (length parts) count level new
    → (i : ℕ) → i < length (parts ++ new ∷ []) → IsPartOf p front i count level (slice_index_or (parts ++ new ∷ []) i [])
parts_more p front level count parts new are is i less = elim (below_or_past i (length parts)) [
  | inl before ↦ subst (IsPartOf p front i count level) (sym (get_or_append_left parts (new ∷ []) [] i before)) (are i before)
  | inr past ↦
      subst (λ k. IsPartOf p front k count level (slice_index_or (parts ++ new ∷ []) k [])) {x = length parts} {y = i}
      (let long = length-append parts (new ∷ []) in omega (arith, past, less, long))
      (subst (IsPartOf p front (length parts) count level) (sym (get_or-append_seam parts new [] [])) is)
]

-- ---- what is left from places on

pub rests_long : (ns : List ℕ) (parts : List (List Found)) → length ns ≡ length parts → length (rests_of ns parts) ≡ length parts
rests_long [] [] even = refl
rests_long (n ∷ ns) (p ∷ parts) even = ap suc (rests_long ns parts (omega (arith, even)))
rests_long _ _ even = absurd (omega (arith, even))

pub rests_at : (ns : List ℕ) (parts : List (List Found)) (i : ℕ) → length ns ≡ length parts → i < length parts → slice_index_or (rests_of ns parts) i [] ≡ drop (slice_index_or ns i 0) (slice_index_or parts i [])
rests_at (n ∷ ns) (p ∷ parts) zero even less = refl
rests_at (n ∷ ns) (p ∷ parts) (suc i) even less = rests_at ns parts i (omega (arith, even)) (omega (arith, less))
rests_at _ _ i even less = absurd (omega (arith, even, less))

-- a place later in one of them
pub rests_on : (ns : List ℕ) (parts : List (List Found)) (k n : ℕ) → length ns ≡ length parts → k < length parts
    → rests_of (slice_set ns k n) parts ≡ slice_set (rests_of ns parts) k (drop n (slice_index_or parts k []))
rests_on (m ∷ ns) (p ∷ parts) zero n even less = refl
rests_on (m ∷ ns) (p ∷ parts) (suc k) n even less = ap (λ ps. drop m p ∷ ps) (rests_on ns parts k n (omega (arith, even)) (omega (arith, less)))
rests_on _ _ k n even less = absurd (omega (arith, even, less))

pub none_taken : (parts : List (List Found)) → rests_of (replicate (length parts) 0) parts ≡ parts
none_taken [] = refl
none_taken (p ∷ parts) = ap (λ ps. p ∷ ps) (none_taken parts)

-- what stands at a place, and what is behind it
record IsHead (fs : List Found) (n : ℕ) (f : Found) (rest : List Found) : Type 0 where
  pub within : n < length fs
  pub here : slice_index_or fs n no_found ≡ f
  pub behind : drop (suc n) fs ≡ rest

head_of : (fs : List Found) (n : ℕ) (f : Found) (rest : List Found) → drop n fs ≡ f ∷ rest → IsHead fs n f rest
head_of fs n f rest e =
    let less : n < length fs = omega (arith, length-drop n fs, ap length e) in
    let parts : get_or fs n no_found ∷ drop (suc n) fs ≡ f ∷ rest = sym (drop-cons fs n no_found less) ∙ e in
    record { within = less; here = cc; behind = cc }

-- The part with the least lead from its place on: its place is within it, and what stands there is taken next.
pub record IsNextTaken (parts : List (List Found)) (ns : List ℕ) (k : ℕ) : Type 0 where
  pub number : k < length parts
  pub within : slice_index_or ns k 0 < length (slice_index_or parts k [])
  pub found : Found
  pub rest : List Found
  pub here : slice_index_or (slice_index_or parts k []) (slice_index_or ns k 0) no_found ≡ found
  pub left : slice_index_or (rests_of ns parts) k [] ≡ found ∷ rest
  pub behind : drop (suc (slice_index_or ns k 0)) (slice_index_or parts k []) ≡ rest
  pub least : (i : ℕ) → i < length (rests_of ns parts) → IsNoMoreThanFirst found.lead (first_lead (slice_index_or (rests_of ns parts) i []))

pub next_taken : (parts : List (List Found)) (ns : List ℕ) (k : ℕ) → length ns ≡ length parts → IsLeastPart (rests_of ns parts) (Some k) → IsNextTaken parts ns k
next_taken parts ns k even (number, f, rest, left, least) =
    let less : k < length parts = (let l = rests_long ns parts even in omega (arith, l, number)) in
    let head = head_of (slice_index_or parts k []) (slice_index_or ns k 0) f rest (sym (rests_at ns parts k even less) ∙ left) in
    record { number = less; within = head.within; found = f; rest = rest; here = head.here; left = left; behind = head.behind; least = least }

-- the spots so far, one more
pub taking_goes_on : (p : ProgramShape) (front : List Ticket) (level : List StandingShape) (level_sorted : AreSorted level) (parts : List (List Found)) (ns : List ℕ) (spots : List Spot) (k : ℕ)
    → length ns ≡ length parts → IsMerging p front (length parts) level (all_in parts) (rests_of ns parts) (level_in parts spots).standings (level_in parts spots).going → IsNextTaken parts ns k
    → IsMerging p front (length parts) level (all_in parts) (rests_of (slice_set ns k (suc (slice_index_or ns k 0))) parts) (level_in parts (spots ++ spot_of parts k (slice_index_or ns k 0) ∷ [])).standings
    (level_in parts (spots ++ spot_of parts k (slice_index_or ns k 0) ∷ [])).going
taking_goes_on p front level level_sorted parts ns spots k even m next =
    let n = slice_index_or ns k 0 in
    let less : k < length (rests_of ns parts) = (let l = rests_long ns parts even in let less = next.number in omega (arith, l, less)) in
    rw (rests_on ns parts k (suc n) even next.number, next.behind, map_snoc (standing_at parts) spots (spot_of parts k n), map_snoc (λ (s : Spot). s.going) spots (spot_of parts k n))
    (subst (λ (f : Found). IsMerging p front (length parts) level (all_in parts) (slice_set (rests_of ns parts) k next.rest) ((level_in parts spots).standings ++ f.standing ∷ [])
    ((level_in parts spots).going ++ record { clients = f.going; share = k } ∷ [])) (sym next.here)
    (merging_goes_on p front (length parts) level (all_in parts) (rests_of ns parts) _ _ level_sorted m k less next.found next.rest next.left next.least))

-- fewer are left
pub taking_shrinks : (parts : List (List Found)) (ns : List ℕ) (k : ℕ) → length ns ≡ length parts → IsNextTaken parts ns k
    → left_in (rests_of (slice_set ns k (suc (slice_index_or ns k 0))) parts) < left_in (rests_of ns parts)
taking_shrinks parts ns k even next = search (rules, fewer_left, rests_long, rests_on)
