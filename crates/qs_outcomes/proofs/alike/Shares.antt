-- The count from a client on, by the count from the next client on. Of the pairs of an outcome and a place that has in
-- it what the client has here, there are two counts: each outcome has as many such places as there are clients with the
-- same variables; and for each place of the class there are as many such outcomes as where the client stays, since the
-- two can be exchanged. So the one count times those with the same is the other times all of the class.
use Rattle.std.proofs.Common.{◌≡◌, ◌<◌, ◌≤◌, ◌+◌, ◌*◌, ◌/◌, ◌-◌, ◌^◌, ℕ, suc, List, ◌∷◌, length, sym, ap, ap₂, ◌∙◌, subst, arith, inl, inr, ⊎_elim}
use Rattle.qs_outcomes.proofs.Common.{AreClasses, at_most, cases_lt, Change, changed_outcome, Classes, each_map, every, exchange-twice, flip, flip_is, flipped, flipped_second, has_map, HasOne, mul-div_cancel, mul-le-mul, nat_tests, OrderOutcome, pow-le-pow_right, pow-suc, ProgramShape, then_changed, then_is}
use Rattle.qs_outcomes.specs.alike.AlikeCounts.{AreThose, CountsThose, IsAlikeFrom, IsSameFrom}
use Rattle.qs_outcomes.proofs.alike.Counting.{AreChangesFrom, CountsFrom, IsChangeFrom, counted_from, flipped_below, old_alike, same_flipped}
use Rattle.qs_outcomes.proofs.alike.Pairs.{each_pairs, has_known, has_pairs, known, long_known, long_pairs, pairs, two_known, two_pairs}

-- ---- numbers counted one after another

further : (c to : ℕ) → c < to → c < to + 1
further c to less = omega (arith, less)

pub those_more : (P : ℕ → Type 0) (to count : ℕ) → CountsThose P to count → P to → CountsThose P (to + 1) (count + 1)
those_more P to count (xs, are, long) h = (
  to ∷ xs,
  record {
    sound = (((let z : to < to + 1 = omega arith in z), h), each_map {Q = λ c. (c < to + 1) × P c} (λ c (w : (c < to) × P c). (further c to w.0, w.1)) xs are.sound);
    complete = λ c less p. ⊎_elim (λ (under : c < to). inr (are.complete c under p)) (λ (past : to ≤ c). inl (omega (arith, less, past))) (cases_lt c to);
    once = (each_map {Q = λ c. to ≡ c → ⊥} (λ c (w : (c < to) × P c) e. (let less = w.0 in omega (arith, less, e))) xs are.sound, are.once);
  },
  omega (arith, long),
)

pub those_skip : (P : ℕ → Type 0) (to count : ℕ) → CountsThose P to count → (P to → ⊥) → CountsThose P (to + 1) count
those_skip P to count (xs, are, long) not = (
  xs,
  record {
    sound = each_map {Q = λ c. (c < to + 1) × P c} (λ c (w : (c < to) × P c). (further c to w.0, w.1)) xs are.sound;
    complete = λ c less p.
        ⊎_elim (λ (under : c < to). are.complete c under p)
        (λ (past : to ≤ c). absurd (not (subst P (let z : c ≡ to = omega (arith, less, past) in z) p))) (cases_lt c to);
    once = are.once;
  },
  long,
)

-- ---- the two counts of pairs

module _ (p : ProgramShape) (k : Classes) (are : AreClasses p k) (o : OrderOutcome) (n : ℕ) (within : n < length p.clients) where
  abbrev many : ℕ
  many = length p.clients

  abbrev Made : OrderOutcome → Type 0
  Made b = (x : Change) × IsChangeFrom k n x × (b ≡ changed_outcome x o)

  -- one of the class is a client
  inside : (c : ℕ) → k c ≡ k n → c < many
  inside c alike = let same : many ≤ c → c ≡ n = λ past. are.alone c n past alike in let less = within in grind (arith, same)

  -- what stands from there on comes from there on, and goes there
  from_old : (x : Change) → IsChangeFrom k n x → (c : ℕ) → n ≤ c → n ≤ x.old c
  from_old x is c from = let stays = is.kept (x.old c) in let back = is.change.back (x.old c) in let own = is.change.back c in grind arith

  from_new : (x : Change) → IsChangeFrom k n x → (c : ℕ) → n ≤ c → n ≤ x.new c
  from_new x is c from = let stays = is.kept (x.new c) in let there = is.change.there c in grind arith

  exchanged_back : (j : ℕ) (q : OrderOutcome) → q ≡ changed_outcome (flip n j) (changed_outcome (flip n j) q)
  exchanged_back j q = sym (λ i. record { locals = λ c. q.locals (exchange-twice n j c i); states = q.states })

  module _ (all later : List OrderOutcome) (changes : AreChangesFrom k n o all) (stays : AreChangesFrom k (n + 1) o later)
      (alikes sames : List ℕ) (of_class : AreThose (IsAlikeFrom k n) many alikes) (of_same : AreThose (IsSameFrom k o n) many sames) where
    abbrev Entry : Type 0
    Entry = (b : OrderOutcome) × Made b

    abbrev entries : List Entry
    entries = known Made all changes.sound

    -- the place to which a change brings one with the same, and the outcome where this place and the client are
    -- exchanged
    abbrev IsTied : Entry × ℕ → ℕ × OrderOutcome → Type 0
    IsTied w z = (z.0 ≡ w.0.1.0.new w.1) × (z.1 ≡ changed_outcome (flip n z.0) w.0.0)

    abbrev IsSamePair : Entry × ℕ → Entry × ℕ → Type 0
    IsSamePair w v = (w.0.0 ≡ v.0.0) × (w.0.1.0.new w.1 ≡ v.0.1.0.new v.1)

    -- a change that brings one with the same to a place, with the client and the place exchanged, and before it the
    -- client and that one: the client stays where it is
    abbrev moved : Change → ℕ → Change
    moved x s = then_changed (flip n s) (then_changed x (flip n (x.new s)))

    moved_from : (x : Change) → IsChangeFrom k n x → (s : ℕ) → IsSameFrom k o n s → IsChangeFrom k (n + 1) (moved x s)
    moved_from x is s same = record {
      change = then_is k (flip n s) (then_changed x (flip n (x.new s))) (flip_is k n s (sym same.1))
          (then_is k x (flip n (x.new s)) is.change (flip_is k n (x.new s) (sym (is.change.alike s ∙ same.1))));
      kept = kept;
    }
      where
        kept : (c : ℕ) → c < n + 1 → flipped n s (x.old (flipped n (x.new s) c)) ≡ c
        kept c less =
            let stays = is.kept c in let up = from_new x is s same.0 in let there = is.change.there s in let from = same.0 in grind (arith, nat_tests)

    stays_put : (x : Change) → IsChangeFrom k n x → (s : ℕ) → IsSameFrom k o n s
        → HasOne (λ q. q ≡ changed_outcome (flip n (x.new s)) (changed_outcome x o)) later
    stays_put x is s same =
        has_map
        (λ q (e : q ≡ changed_outcome (moved x s) o). e ∙ same_flipped o (then_changed x (flip n (x.new s))) n s (sym same.2)) later
        (stays.complete (moved x s) (moved_from x is s same))

    tied : (w : Entry × ℕ) → (w.1 < many) × IsSameFrom k o n w.1 → HasOne (IsTied w) (pairs alikes later)
    tied ((b, (x, is, made)), s) (less, same) =
        let j = x.new s in
        let alike : k j ≡ k n = is.change.alike s ∙ same.1 in
        has_map
        (λ (z : ℕ × OrderOutcome) (h : (z.0 ≡ j) × (z.1 ≡ changed_outcome (flip n j) (changed_outcome x o))).
        (h.0, h.1 ∙ (ap (changed_outcome (flip n j)) (sym made) ∙ ap (λ m. changed_outcome (flip n m) b) (sym h.0))))
        (pairs alikes later)
        (has_pairs (λ d. d ≡ j) (λ _ q. q ≡ changed_outcome (flip n j) (changed_outcome x o)) alikes later (λ d e. stays_put x is s same)
        (of_class.complete j (inside j alike) (from_new x is s same.0, alike)))

    one_pair : (w v : Entry × ℕ) (z : ℕ × OrderOutcome) → IsTied w z → IsTied v z → IsSamePair w v
    one_pair w v z t u = (
      exchanged_back z.0 w.0.0 ∙ (ap (changed_outcome (flip n z.0)) (sym t.1 ∙ u.1) ∙ sym (exchanged_back z.0 v.0.0)),
      sym t.0 ∙ u.0,
    )

    same_one : (e : Entry) (s t : ℕ) → IsSamePair (e, s) (e, t) → s ≡ t
    same_one (b, (x, is, made)) s t same = sym (is.change.there s) ∙ (ap x.old same.1 ∙ is.change.there t)

    few : length all * length sames ≤ length alikes * length later
    few =
        let most = at_most IsTied IsSamePair one_pair (pairs entries sames) (pairs alikes later)
        (two_pairs IsSamePair (λ e f. e.0 ≡ f.0) ◌≡◌ (λ e f s t h. h.0) same_one entries sames (two_known Made (λ a b. a ≡ b → ⊥) all changes.sound changes.once) of_same.once)
        (each_map (λ (w : Entry × ℕ) (h : Unit {0} × ((w.1 < many) × IsSameFrom k o n w.1)). tied w h.1) (pairs entries sames)
        (each_pairs (λ e. Unit {0}) (λ s. (s < many) × IsSameFrom k o n s) entries sames (every (λ e. tt) entries) of_same.sound)) in
        let one = long_pairs entries sames ∙ ap (λ m. m * length sames) (long_known Made all changes.sound) in
        let other = long_pairs alikes later in
        subst (λ m. m ≤ length alikes * length later) one (subst (λ m. length (pairs entries sames) ≤ m) other most)

    -- and back: where the client stays, it is exchanged with a place
    module _ (j : ℕ) (from : n ≤ j) (alike : k j ≡ k n) (y : Change) (is : IsChangeFrom k (n + 1) y) where
      abbrev u : Change
      u = then_changed y (flip n j)

      u_from : IsChangeFrom k n u
      u_from = record {
        change = then_is k y (flip n j) is.change (flip_is k n j (sym alike));
        kept = λ d under. ap y.old (flipped_below n j d under from) ∙ is.kept d (omega (arith, under));
      }

      comes : (e : Entry) → e.0 ≡ changed_outcome u o → HasOne (λ s. j ≡ e.1.0.new s) sames
      comes (b, (x, is_x, made_x)) same =
          has_map (λ s (e : s ≡ x.old j). sym (is_x.change.back j) ∙ ap x.new (sym e)) sames
          (of_same.complete (x.old j) (inside (x.old j) class) (from_old x is_x j from, class, held))
        where
          class : k (x.old j) ≡ k n
          class = sym (old_alike k x is_x.change j) ∙ alike

          held : o.locals (x.old j) ≡ o.locals n
          held =
              ap (λ (q : OrderOutcome). q.locals j) (sym made_x ∙ same)
              ∙ (ap (λ m. o.locals (y.old m)) (flipped_second n j) ∙ ap o.locals (is.kept n (omega arith)))

    back : (z : ℕ × OrderOutcome) → ((z.0 < many) × IsAlikeFrom k n z.0)
        × ((y : Change) × IsChangeFrom k (n + 1) y × (z.1 ≡ changed_outcome y o)) → HasOne (λ w. IsTied w z) (pairs entries sames)
    back (j, c) ((less, (from, alike)), (y, is, made)) =
        has_map
        (λ (w : Entry × ℕ) (h : (w.0.0 ≡ changed_outcome (u j from alike y is) o) × (j ≡ w.0.1.0.new w.1)).
        (h.1, made ∙ (exchanged_back j (changed_outcome y o) ∙ ap (changed_outcome (flip n j)) (sym h.0))))
        (pairs entries sames)
        (has_pairs (λ (e : Entry). e.0 ≡ changed_outcome (u j from alike y is) o) (λ (e : Entry) s. j ≡ e.1.0.new s) entries sames (comes j from alike y is)
        (has_known Made (λ b. b ≡ changed_outcome (u j from alike y is) o) all changes.sound (changes.complete (u j from alike y is) (u_from j from alike y is))))

    abbrev IsSamePlace : ℕ × OrderOutcome → ℕ × OrderOutcome → Type 0
    IsSamePlace z y = (z.0 ≡ y.0) × (z.1 ≡ y.1)

    one_place : (z y : ℕ × OrderOutcome) (w : Entry × ℕ) → IsTied w z → IsTied w y → IsSamePlace z y
    one_place z y w t u = let e : z.0 ≡ y.0 = t.0 ∙ sym u.0 in (e, t.1 ∙ (ap (λ m. changed_outcome (flip n m) w.0.0) e ∙ sym u.1))

    enough : length alikes * length later ≤ length all * length sames
    enough =
        let most = at_most (λ z w. IsTied w z) IsSamePlace one_place (pairs alikes later) (pairs entries sames)
        (two_pairs IsSamePlace ◌≡◌ ◌≡◌ (λ i j b c h. h.0) (λ i b c h. h.1) alikes later of_class.once stays.once)
        (each_map back (pairs alikes later)
        (each_pairs (λ j. (j < many) × IsAlikeFrom k n j) (λ c. (y : Change) × IsChangeFrom k (n + 1) y × (c ≡ changed_outcome y o)) alikes later of_class.sound stays.sound)) in
        let one = long_pairs entries sames ∙ ap (λ m. m * length sames) (long_known Made all changes.sound) in
        let other = long_pairs alikes later in
        subst (λ m. length alikes * length later ≤ m) one (subst (λ m. m ≤ length (pairs entries sames)) other most)

    shared : length later * length alikes ≡ length all * length sames
    shared = let less = few in let more = enough in omega (arith, less, more)

  -- from the count behind the client to that from it on
  pub counts_back : (count alike same : ℕ) → CountsFrom k (n + 1) o count → CountsThose (IsAlikeFrom k n) many alike
      → CountsThose (IsSameFrom k o n) many same → 0 < same → CountsFrom k n o (count * alike / same)
  counts_back count alike same (later, stays, long) (alikes, of_class, as_many) (sames, of_same, as_few) some =
      by (counted_from p k are (many - n) n (omega (arith, within)) o)
    where
      by : (c : ℕ) × CountsFrom k n o c → CountsFrom k n o (count * alike / same)
      by (c, (all, changes, _)) =
          let product : count * alike ≡ length all * same =
          sym (ap₂ (λ a b. a * b) long as_many) ∙ (shared all later changes stays alikes sames of_class of_same ∙ ap (λ m. length all * m) as_few) in
          (all, changes, sym (ap (λ m. m / same) product ∙ mul-div_cancel (length all) some))

-- ---- how large a count can be

pub product_few : (done count alike : ℕ) → count ≤ 8 ^ done → alike ≤ 8 → count * alike ≤ 8 ^ (done + 1)
product_few done count alike few eight =
    let most : count * alike ≤ 8 ^ done * 8 = mul-le-mul few eight in
    let e : suc done ≡ done + 1 = omega arith in
    subst (λ m. count * alike ≤ 8 ^ m) e (subst (λ m. count * alike ≤ m) (sym (pow-suc 8 done)) most)

pub power_fits : (done : ℕ) → done ≤ 8 → 8 ^ done ≤ 16777216
power_fits done small = let most : 8 ^ done ≤ 8 ^ 8 = pow-le-pow_right (let z : 0 < 8 = omega arith in z) small in omega (arith, most)

pub product_fits : (done many product : ℕ) → done < many → many ≤ 8 → product ≤ 8 ^ (done + 1) → product ≤ 16777216
product_fits done many product less small few =
    let most = power_fits (done + 1) (omega (arith, less, small)) in omega (arith, few, most)
