-- From level to level: a reduced order of one block more goes through the level, and where it goes on from there the
-- least order of the level does so, too, no later. So the next level has the least orders again, and no order that
-- leads to one of its configurations is before the one that stands there.
use Rattle.qs_levels.proofs.Common.{AllByRecursion, before_both, before_longer, before_onward, blocks_of, complete_orders_leave_none, Configuration, configuration-append, configuration-snoc, configuration_after, configuration_from, configuration_in, configurations_follow_orders, each_both, each_map, first_configuration, goes_on, GoesOn, has_map, has_of, has_place, has_some, HasMoreThanAfter, HasOne, IsBefore, IsComplete, IsFirst, IsLeastThere, IsLegal, IsOutcomeAfter, IsReducedAfter, IsReducedFrom, IsStanding, legal-front, legal-join, legal-rest, legal_on, LegalFrom, length-take-le, nil_from_length, not_before, one_block_on, outcome_in, outcome_of, ProgramShape, reduced_from, ReducedFrom, StandingShape, take-append-drop, take-suc, take_all, Ticket}
use Rattle.qs_levels.proofs.Common.{◌≡◌, ◌<◌, ◌≤◌, ◌+◌, ℕ, suc, true, List, [], ◌∷◌, ◌++◌, length, get_or, take, drop, refl, sym, ap, ◌∙◌, subst, arith, inl, inr, append_assoc, append-nil}
use Rattle.qs_levels.proofs.Common.{length-append, AreFrontsAfter, FrontsCover, IsAfter, IsOnward, IsNoLater, IsOneLonger, IsReached, StandsFor, order_on, IsLevel, IsNextOf, rules}
use Rattle.qs_levels.proofs.meaning.Lists.{only_one}
use Rattle.qs_levels.proofs.meaning.Weights.{sum_below, sum_more}

pub no_later_both : (ts us vs : List Ticket) → IsNoLater ts us → IsNoLater us vs → IsNoLater ts vs
no_later_both ts us vs (inl e) k = subst (λ xs. IsNoLater xs vs) (sym e) k
no_later_both ts us vs (inr h) (inl e) = inr (subst (IsBefore ts) e h)
no_later_both ts us vs (inr h) (inr k) = inr (before_both ts us vs h k)

pub reduced-front : (p : ProgramShape) (g : Configuration) (ts us : List Ticket) → IsReducedFrom p g (ts ++ us) → IsReducedFrom p g ts
reduced-front p g [] us h = tt
reduced-front p g (t ∷ ts) us h = (h.0, reduced-front p (one_block_on p t.client g) ts us h.1)

reduced-last : (p : ProgramShape) (g : Configuration) (ts us : List Ticket) → IsReducedFrom p g (ts ++ us) → IsReducedFrom p (configuration_from p g ts) us
reduced-last p g [] us h = h
reduced-last p g (t ∷ ts) us h = reduced-last p (one_block_on p t.client g) ts us h.1

-- ---- lengths

-- all blocks count once
abbrev pub counted : ProgramShape → (ℕ → ℕ) → ℕ
counted p begun = sum_below (length p.clients) begun

pub counted_after : (p : ProgramShape) (g : Configuration) (ts : List Ticket) → LegalFrom p g.begun ts → length ts + counted p g.begun ≡ counted p (configuration_from p g ts).begun
counted_after p g [] legal = omega arith
counted_after p g (t ∷ ts) legal =
    let rest = counted_after p (one_block_on p t.client g) ts (legal_on p g t ts legal) in
    let one : counted p (one_block_on p t.client g).begun ≡ counted p g.begun + 1 = sum_more (length p.clients) t.client g.begun (has_place p t.client t.index legal.1) in
    omega (arith, rest, one)

pub equally_long : (p : ProgramShape) (ts us : List Ticket) → IsLegal p ts → IsLegal p us → counted p (configuration_after p ts).begun ≡ counted p (configuration_after p us).begun → length ts ≡ length us
equally_long p ts us legal other same = search (rules, counted_after)

-- ---- levels

-- what a reduced order after a front is, in its parts
pub onward_of : (p : ProgramShape) (front order : List Ticket) → (r : IsReducedAfter p front order) → IsLegal p order → IsOnward p front (length r.rest) r.rest
onward_of p front order r legal = record { legal = subst (IsLegal p) r.whole legal; reduced = r.reduced; long = refl }

last_of : (rest : List Ticket) (n : ℕ) → length rest ≡ suc n → (init : List Ticket) × (t : Ticket) × (rest ≡ init ++ t ∷ []) × (length init ≡ n)
last_of [] n e = absurd (omega (arith, e))
last_of (t ∷ rest) n e =
    let ts = t ∷ rest in
    let less : n < length ts = omega (arith, e) in
    (take n ts, get_or ts n t, sym (take_all (suc n) ts (omega (arith, e))) ∙ take-suc ts n t less, length-take-le n ts (omega (arith, less)))

-- an order that goes on by its last block
pub goes_last : (ts us : List Ticket) (t u : Ticket) → IsNoLater ts us → t ≡ u → IsNoLater (ts ++ t ∷ []) (us ++ u ∷ [])
goes_last ts us t u (inl e) same = inl (λ i. e i ++ same i ∷ [])
goes_last ts us t u (inr h) same = inr (before_longer (ts ++ t ∷ []) us (u ∷ []) (before_onward ts us (t ∷ []) h))

module _ (p : ProgramShape) (front : List Ticket) where
  onward_front : (k : ℕ) (init : List Ticket) (t : Ticket) → IsOnward p front (suc k) (init ++ t ∷ []) → length init ≡ k → IsOnward p front k init
  onward_front k init t on long = record {
    legal = legal-front p (first_configuration p) (front ++ init) (t ∷ []) (subst (IsLegal p) (sym (append_assoc front init (t ∷ []))) on.legal);
    reduced = reduced-front p (configuration_after p front) init (t ∷ []) on.reduced;
    long = long;
  }

  -- the standings to which a level leads are after one block more
  pub longer_each : (k : ℕ) (level next : List StandingShape) → AllByRecursion (IsAfter p front k) level → AllByRecursion (IsStanding p front) next → AllByRecursion (λ n. HasOne (λ s. IsOneLonger s n) level) next
      → AllByRecursion (IsAfter p front (suc k)) next
  longer_each k level next each standing onward =
      each_both (λ n (is : IsStanding p front n) (on : HasOne (λ s. IsOneLonger s n) level).
      has_some (λ s (l : IsOneLonger s n) (a : IsAfter p front k s).
      (let after : IsAfter p front (suc k) n = record {
        standing = is;
        long = (let now = ap length l.1 ∙ length-append s.order (l.0 ∷ []) in let was = a.long in omega (arith, now, was));
      } in after)) level on each) next standing onward

  module _ (k : ℕ) (level : List StandingShape) (is : IsLevel p front k level) (next : List StandingShape) (led : IsNextOf p front level next) where
    reached_on : (init : List Ticket) (t : Ticket) → IsOnward p front (suc k) (init ++ t ∷ []) → length init ≡ k → IsReached p next (front ++ (init ++ t ∷ []))
    reached_on init t on long = has_some through level (is.reached init (onward_front k init t on long)) (each_both (λ s a b. (a, b)) level is.each led.reached)
      where
        R : StandingShape → Type 0
        R s = IsAfter p front k s × ((c : ℕ) → GoesOn p s c → IsReached p next (order_on s c))

        whole : IsLegal p ((front ++ init) ++ t ∷ [])
        whole = subst (IsLegal p) (sym (append_assoc front init (t ∷ []))) on.legal

        through : (s : StandingShape) → StandsFor p (front ++ init) s → IsAfter p front k s × ((c : ℕ) → GoesOn p s c → IsReached p next (order_on s c))
            → IsReached p next (front ++ (init ++ t ∷ []))
        through s stands w =
            let there = stands.there in
            let last : (goes_on p (configuration_after p (front ++ init)).begun t.client ≡ true) × Unit {0} =
            subst (λ g. IsReducedFrom p g (t ∷ [])) (sym (configuration-append p (first_configuration p) front init)) (reduced-last p (configuration_after p front) init (t ∷ []) on.reduced) in
            let goes : GoesOn p s t.client = subst (λ (g : Configuration). goes_on p g.begun t.client ≡ true) (sym there) last.0 in
            let from : LegalFrom p (configuration_after p (front ++ init)).begun (t ∷ []) = legal-rest p (first_configuration p) (front ++ init) (t ∷ []) whole in
            let index : (configuration_in s).begun t.client ≡ t.index = ap (λ (g : Configuration). g.begun t.client) there ∙ sym from.0 in
            let early : IsNoLater (order_on s t.client) ((front ++ init) ++ t ∷ []) =
            goes_last s.order (front ++ init) (record { client = t.client; index = (configuration_in s).begun t.client }) t stands.early (λ i. record { client = t.client; index = index i }) in
            let same : configuration_after p (order_on s t.client) ≡ configuration_after p ((front ++ init) ++ t ∷ []) =
            configuration-snoc p (first_configuration p) s.order (record { client = t.client; index = (configuration_in s).begun t.client })
            ∙ ap (one_block_on p t.client) (sym w.0.standing.stands ∙ there) ∙ sym (configuration-snoc p (first_configuration p) (front ++ init) t) in
            subst (IsReached p next) (append_assoc front init (t ∷ []))
            (has_map (λ n (f : StandsFor p (order_on s t.client) n).
            (let g : StandsFor p ((front ++ init) ++ t ∷ []) n = record {
              there = f.there ∙ same;
              early = no_later_both n.order (order_on s t.client) ((front ++ init) ++ t ∷ []) f.early early;
            } in g)) next (w.1 t.client goes))

    pub level_on : IsLevel p front (suc k) next
    level_on = record {
      each = longer_each k level next is.each led.standing led.onward;
      once = led.once;
      sorted = led.sorted;
      reached = λ rest on.
          (let l = last_of rest k on.long in
          subst (λ ts. IsReached p next (front ++ ts)) (sym l.2) (reached_on l.0 l.1 (subst (IsOnward p front (suc k)) l.2 on) l.3));
    }

  -- once a level has nobody, each later one has nobody
  pub none_later : (k m : ℕ) → k ≤ m → IsLevel p front k [] → IsLevel p front m []
  none_later k m less is = record {
    each = tt;
    once = tt;
    sorted = tt;
    reached = λ rest on.
        (let whole : take k rest ++ drop k rest ≡ rest = take-append-drop k rest in
        is.reached (take k rest) (record {
          legal = legal-front p (first_configuration p) (front ++ take k rest) (drop k rest)
              (subst (IsLegal p) (ap (λ ts. front ++ ts) (sym whole) ∙ sym (append_assoc front (take k rest) (drop k rest))) on.legal);
          reduced = reduced-front p (configuration_after p front) (take k rest) (drop k rest) (subst (IsReducedFrom p (configuration_after p front)) (sym whole) on.reduced);
          long = (let long = on.long in length-take-le k rest (omega (arith, long, less)));
        }));
  }

  -- the level of no blocks
  pub level_first : (s : StandingShape) → IsFirst p front s → IsLevel p front 0 (s ∷ [])
  level_first s first = search (rules, nil_from_length, append-nil)

  -- no reduced order to where one stands is before its own
  pub least_all : (k : ℕ) (level : List StandingShape) → IsLevel p front k level → AllByRecursion (IsLeastThere p front) level
  least_all k level is =
      each_both (λ s (a : IsAfter p front k s) (only : (order : List Ticket) → HasOne (λ t. (configuration_in t ≡ configuration_in s) × IsNoLater t.order order) level → IsNoLater s.order order).
      λ order legal reduced same before.
      (let long : length order ≡ length s.order =
      equally_long p order s.order legal a.standing.legal (ap (λ (g : Configuration). counted p g.begun) (same ∙ a.standing.stands)) in
      let on : IsOnward p front k reduced.rest = record {
        legal = subst (IsLegal p) reduced.whole legal;
        reduced = reduced.reduced;
        long = (let parts = ap length reduced.whole ∙ length-append front reduced.rest in let was = a.long in omega (arith, long, parts, was));
      } in
      let there : HasOne (λ t. (configuration_in t ≡ configuration_in s) × IsNoLater t.order order) level =
      has_map (λ t (f : StandsFor p (front ++ reduced.rest) t). (f.there ∙ ap (configuration_after p) (sym reduced.whole) ∙ same, subst (IsNoLater t.order) (sym reduced.whole) f.early)) level
      (is.reached reduced.rest on) in
      none_both s.order order (only order there) before)) level is.each
      (only_one {I = List Ticket} configuration_in (λ order t. IsNoLater t.order order) level is.once)
    where
      none_both : (ts us : List Ticket) → IsNoLater ts us → IsBefore us ts → ⊥
      none_both ts us (inl e) h = not_before us [] (subst (IsBefore (us ++ [])) e (subst (λ xs. IsBefore xs ts) (sym (append-nil us)) h))
      none_both ts us (inr b) h = not_before us [] (subst (λ xs. IsBefore xs us) (sym (append-nil us)) (before_both us ts us h b))

  pub fronts_of : (k : ℕ) (level : List StandingShape) → IsLegal p front → IsLevel p front k level → AreFrontsAfter p front k level
  fronts_of k level legal is = search (rules, has_map, least_all)

-- there is no room for the first
pub more_than_none : (p : ProgramShape) (front : List Ticket) (s : StandingShape) → IsFirst p front s → HasMoreThanAfter p front 0
more_than_none p front s first = (s ∷ [], record { count = refl; reached = (first.standing, tt); different = (tt, tt) })

-- ---- fronts that cover

pub fronts_cover : FrontsCover
fronts_cover p sound front k found are = record {
  all = λ rest complete long.
      (let whole = configuration-append p (first_configuration p) front rest in
      let ends : (c : ℕ) → (configuration_after p (front ++ rest)).begun c ≡ blocks_of p c = (complete_orders_leave_none p (front ++ rest) complete.legal).0 complete in
      let r = reduced_from p sound (length rest) (configuration_after p front) rest (omega arith) (legal-rest p (first_configuration p) front rest complete.legal)
      (λ c. ap (λ (g : Configuration). g.begun c) (sym whole) ∙ ends c) in
      reach rest complete.legal ends long r);
  only = each_map (λ s (a : IsAfter p front k s). (a.standing.reduced.rest, a.standing.reduced.whole)) found are.sound;
}
  where
    reach : (rest : List Ticket) → IsLegal p (front ++ rest) → ((c : ℕ) → (configuration_after p (front ++ rest)).begun c ≡ blocks_of p c) → k ≤ length rest
        → ReducedFrom p (configuration_after p front) rest → HasOne (λ s. IsOutcomeAfter p s.order (outcome_of p (front ++ rest))) found
    reach rest legal ends long r =
        let g = configuration_after p front in
        let one = take k r.reduced in
        let two = drop k r.reduced in
        let parts : one ++ two ≡ r.reduced = take-append-drop k r.reduced in
        let same : configuration_from p g (one ++ two) ≡ configuration_after p (front ++ rest) =
        ap (configuration_from p g) parts ∙ r.same ∙ sym (configuration-append p (first_configuration p) front rest) in
        let legal_parts : LegalFrom p g.begun (one ++ two) = subst (LegalFrom p g.begun) (sym parts) r.legal in
        let as_long : length r.reduced ≡ length rest =
        (let a = counted_after p g r.reduced r.legal in
        let b = counted_after p g rest (legal-rest p (first_configuration p) front rest legal) in
        let e = ap (λ (g : Configuration). counted p g.begun) r.same in
        omega (arith, a, b, e)) in
        let on : IsOnward p front k one = record {
          legal = legal-join p (first_configuration p) front one (legal-front p (first_configuration p) front rest legal) (legal-front p g one two legal_parts);
          reduced = reduced-front p g one two (subst (IsReducedFrom p g) (sym parts) r.is_reduced);
          long = length-take-le k r.reduced (omega (arith, long, as_long));
        } in
        has_of (λ s (e : configuration_in s ≡ configuration_after p (front ++ one)) (a : IsAfter p front k s).
        (let there : configuration_after p s.order ≡ configuration_from p g one = sym a.standing.stands ∙ e ∙ configuration-append p (first_configuration p) front one in
        let goal : configuration_after p (s.order ++ two) ≡ configuration_after p (front ++ rest) =
        configuration-append p (first_configuration p) s.order two ∙ ap (λ h. configuration_from p h two) there ∙ sym (configuration-append p g one two) ∙ same in
        let legal_s : IsLegal p (s.order ++ two) = legal-join p (first_configuration p) s.order two a.standing.legal
        (subst (λ (h : Configuration). LegalFrom p h.begun two) (sym there) (legal-rest p g one two legal_parts)) in
        let complete_s : IsComplete p (s.order ++ two) = (complete_orders_leave_none p (s.order ++ two) legal_s).1 (λ c. ap (λ (h : Configuration). h.begun c) goal ∙ ends c) in
        let to : IsOutcomeAfter p s.order (outcome_of p (front ++ rest)) =
        (two, complete_s, sym (configurations_follow_orders p (s.order ++ two) legal_s) ∙ ap outcome_in goal ∙ configurations_follow_orders p (front ++ rest) legal) in to))
        found (are.complete one on) are.sound
