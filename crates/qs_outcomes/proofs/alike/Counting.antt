-- All that an outcome becomes by changes of alike clients can be listed, each once. Whatever can come to stand at a
-- number is had by one alike client from there on that nobody of its class before it equals. Where these two are
-- exchanged, what is left to change stands behind the number. Where a change puts there what another equal one has, the
-- two are exchanged first, which makes no difference to the outcome.
use Rattle.std.proofs.Common.{◌≡◌, ◌<◌, ◌≤◌, ◌+◌, ◌⊎◌, ◌==◌, ℕ, zero, suc, Bool, true, false, List, [], ◌∷◌, ◌++◌, length, refl, sym, ap, ◌∙◌, subst, arith, inl, inr, ⊎_elim, true≢false, length-append}
use Rattle.qs_outcomes.proofs.Common.{AllByRecursion, AreClasses, cases_lt, Change, changed_outcome, Classes, each_join, each_map, eqb_self, exchange-twice, flip, flip_alike, flip_is, flipped, flipped_first, flipped_other, flipped_second, has_back, has_front, has_map, HasOne, IsChange, nat_tests, no_change, no_change_is, NoTwo, num_cases, OrderOutcome, pairs_join, ProgramShape, signed_items, then_changed, then_is, ℤ}
use Rattle.std.specs.Ordering.{int_eq}
use Rattle.std.specs.Cmp.Lexicographic.{pointwise}
use Rattle.qs_outcomes.specs.alike.AlikeOutcomes.{StandsFor}

-- a change that leaves all below a number where they are
pub record IsChangeFrom (k : Classes) (n : ℕ) (x : Change) : Type 0 where
  pub change : IsChange k x
  pub kept : (c : ℕ) → c < n → x.old c ≡ c

-- what an outcome becomes by such changes: all of these, each once
pub record AreChangesFrom (k : Classes) (n : ℕ) (o : OrderOutcome) (all : List OrderOutcome) : Type 0 where
  pub sound : AllByRecursion (λ b. (x : Change) × IsChangeFrom k n x × (b ≡ changed_outcome x o)) all
  pub complete : (x : Change) → IsChangeFrom k n x → HasOne (λ b. b ≡ changed_outcome x o) all
  pub once : NoTwo ◌≡◌ all

-- there are so many of them
abbrev pub CountsFrom : Classes → ℕ → OrderOutcome → ℕ → Type 0
CountsFrom k n o count = (all : List OrderOutcome) × AreChangesFrom k n o all × (length all ≡ count)

-- someone of the class, from a number on and before another, has the same variables as that one
abbrev pub HasEarlier : Classes → OrderOutcome → (n other : ℕ) → Type 0
HasEarlier k o n other = (m : ℕ) × (n ≤ m) × (m < other) × (k m ≡ k n) × (o.locals m ≡ o.locals other)

-- one of the class of a number, whose variables nobody has of those from this number on who come before it
pub record IsChoice (k : Classes) (o : OrderOutcome) (n other : ℕ) : Type 0 where
  pub alike : k n ≡ k other
  pub new : HasEarlier k o n other → ⊥

-- all that an outcome becomes where the change puts at a number what stood below another, each once
pub record AreChangesTo (k : Classes) (n : ℕ) (o : OrderOutcome) (to : ℕ) (all : List OrderOutcome) : Type 0 where
  pub sound : AllByRecursion (λ b. (x : Change) × IsChangeFrom k n x × (b ≡ changed_outcome x o)) all
  pub complete : (x : Change) → IsChangeFrom k n x → x.old n < to → HasOne (λ b. b ≡ changed_outcome x o) all
  pub once : NoTwo ◌≡◌ all
  pub first : AllByRecursion (λ b. (m : ℕ) × (n ≤ m) × (m < to) × (k m ≡ k n) × (o.locals m ≡ b.locals n)) all

abbrev pub CountsTo : Classes → ℕ → OrderOutcome → ℕ → ℕ → Type 0
CountsTo k n o to count = (all : List OrderOutcome) × AreChangesTo k n o to all × (length all ≡ count)

-- whose variables a client gets is of its class
pub old_alike : (k : Classes) (x : Change) → IsChange k x → (c : ℕ) → k c ≡ k (x.old c)
old_alike k x is c = ap k (sym (is.back c)) ∙ is.alike (x.old c)

-- where two clients have the same, it makes no difference which of them another one is taken for
pub same_flipped : (o : OrderOutcome) (x : Change) (c d : ℕ) → o.locals c ≡ o.locals d → changed_outcome (then_changed (flip c d) x) o ≡ changed_outcome x o
same_flipped o x c d same = λ i. record { locals = λ n. flip_alike o.locals c d same (x.old n) i; states = o.states }

pub flipped_below : (c d n : ℕ) → n < c → c ≤ d → flipped c d n ≡ n
flipped_below c d n less behind = flipped_other c d n (λ e. omega (arith, e, less)) (λ e. omega (arith, e, less, behind))

-- nothing from there on
module _ (p : ProgramShape) (k : Classes) (are : AreClasses p k) (o : OrderOutcome) where
  pub counts_none : CountsFrom k (length p.clients) o 1
  counts_none = (
    o ∷ [],
    record {
      sound = ((no_change, record { change = no_change_is k; kept = λ c less. refl }, refl), tt);
      complete = λ x is. inl (λ i. record { locals = λ c. o.locals (fixed x is c i); states = o.states });
      once = (tt, tt);
    },
    refl,
  )
    where
      fixed : (x : Change) → IsChangeFrom k (length p.clients) x → (c : ℕ) → c ≡ x.old c
      fixed x is c =
          ⊎_elim (λ (less : c < length p.clients). sym (is.kept c less))
          (λ (past : length p.clients ≤ c). are.alone c (x.old c) past (old_alike k x is.change c)) (cases_lt c (length p.clients))

  -- all numbers were tried
  pub counts_all : (n to count : ℕ) → n < length p.clients → length p.clients ≤ to → CountsTo k n o to count → CountsFrom k n o count
  counts_all n to count within past (all, are_to, long) = (
    all,
    record {
      sound = are_to.sound;
      complete = λ x is. are_to.complete x is (below x is);
      once = are_to.once;
    },
    long,
  )
    where
      below : (x : Change) → IsChangeFrom k n x → x.old n < to
      below x is =
          ⊎_elim (λ (less : x.old n < to). less)
          (λ (over : to ≤ x.old n).
          absurd (let e : x.old n ≡ n = are.alone (x.old n) n (omega (arith, past, over)) (sym (old_alike k x is.change n)) in omega (arith, e, within, past, over)))
          (cases_lt (x.old n) to)

module _ (k : Classes) (n : ℕ) (o : OrderOutcome) where
  pub counts_begin : (to : ℕ) → to ≡ n → CountsTo k n o to 0
  counts_begin to e = (
    [],
    record {
      sound = tt;
      complete = λ x is less. absurd (not x is (x.old n) refl (omega (arith, less, e)));
      once = tt;
      first = tt;
    },
    refl,
  )
    where
      -- what stands below is not put there
      not : (x : Change) → IsChangeFrom k n x → (m : ℕ) → x.old n ≡ m → m < n → ⊥
      not x is m put less =
          let same : n ≡ m = sym (is.change.back n) ∙ (ap x.new (put ∙ sym (is.kept m less)) ∙ is.change.back m) in
          omega (arith, same, less)

  -- two from there on that change places before another change
  fixes : (x : Change) → IsChangeFrom k n x → (c d : ℕ) → k c ≡ k d → n ≤ c → c ≤ d → IsChangeFrom k n (then_changed (flip c d) x)
  fixes x is c d alike from behind = record {
    change = then_is k (flip c d) x (flip_is k c d alike) is.change;
    kept = λ b under. ap (flipped c d) (is.kept b under) ∙ flipped_below c d b (omega (arith, under, from)) behind;
  }

  module _ (to : ℕ) (behind : n ≤ to) (count : ℕ) (so_far : CountsTo k n o to count) where
    abbrev all : List OrderOutcome
    all = so_far.0

    -- a change that puts there what stood below, or just what is looked at
    split : (x : Change) → x.old n < to + 1 → ((x.old n < to) ⊎ (x.old n ≡ to))
    split x less = grind arith

    abbrev firsts : AllByRecursion (λ b. (m : ℕ) × (n ≤ m) × (m < to + 1) × (k m ≡ k n) × (o.locals m ≡ b.locals n)) all
    firsts =
        each_map
        (λ (b : OrderOutcome) (w : (m : ℕ) × (n ≤ m) × (m < to) × (k m ≡ k n) × (o.locals m ≡ b.locals n)).
        (w.0, w.1, (let less = w.2 in let z : w.0 < to + 1 = omega (arith, less) in z), w.3, w.4))
        all so_far.1.first

    -- what is looked at cannot stand there, or was counted already
    pub counts_skip : (k n ≡ k to → HasEarlier k o n to) → CountsTo k n o (to + 1) count
    counts_skip earlier = (
      all,
      record {
        sound = so_far.1.sound;
        complete = λ x is less. ⊎_elim (so_far.1.complete x is) (at x is) (split x less);
        once = so_far.1.once;
        first = firsts;
      },
      so_far.2,
    )
      where
        at : (x : Change) → IsChangeFrom k n x → x.old n ≡ to → HasOne (λ b. b ≡ changed_outcome x o) all
        at x is put =
            let w = earlier (old_alike k x is.change n ∙ ap k put) in
            let m = w.0 in
            let from : n ≤ m = w.1 in
            let less : m < to = w.2 in
            let alike : k m ≡ k to = w.3 ∙ (old_alike k x is.change n ∙ ap k put) in
            has_map (λ b (e : b ≡ changed_outcome (then_changed (flip m to) x) o). e ∙ same_flipped o x m to w.4) all
            (so_far.1.complete (then_changed (flip m to) x)
            (fixes x is m to alike from (omega (arith, less)))
            (subst (λ d. d < to) (sym (ap (flipped m to) put ∙ flipped_second m to)) less))

    -- what is looked at stands there first in those that are counted further
    module _ (choice : IsChoice k o n to) (more : ℕ) (later : CountsFrom k (n + 1) (changed_outcome (flip n to) o) more) where
      abbrev exchanged : OrderOutcome
      exchanged = changed_outcome (flip n to) o

      abbrev others : List OrderOutcome
      others = later.0

      abbrev IsLater : OrderOutcome → Type 0
      IsLater b = (y : Change) × IsChangeFrom k (n + 1) y × (b ≡ changed_outcome y exchanged)

      starts : (b : OrderOutcome) → IsLater b → o.locals to ≡ b.locals n
      starts b (y, is, e) =
          sym (ap (λ (q : OrderOutcome). q.locals n) e
          ∙ ap o.locals (ap (flipped n to) (is.kept n (omega arith)) ∙ flipped_first n to))

      earlier_sound : (b : OrderOutcome) → IsLater b → (x : Change) × IsChangeFrom k n x × (b ≡ changed_outcome x o)
      earlier_sound b (y, is, e) = (
        then_changed (flip n to) y,
        record {
          change = then_is k (flip n to) y (flip_is k n to choice.alike) is.change;
          kept = λ c under. ap (flipped n to) (is.kept c (omega (arith, under))) ∙ flipped_below n to c under behind;
        },
        e,
      )

      -- a change that puts it there, after which the two are exchanged
      back : (x : Change) → IsChangeFrom k n x → x.old n ≡ to → HasOne (λ b. b ≡ changed_outcome x o) others
      back x is put =
          has_map (λ b (e : b ≡ changed_outcome (then_changed (flip n to) x) exchanged). e ∙ twice) others
          (later.1.complete (then_changed (flip n to) x)
          (record { change = then_is k (flip n to) x (flip_is k n to choice.alike) is.change; kept = kept }))
        where
          twice : changed_outcome (then_changed (flip n to) x) exchanged ≡ changed_outcome x o
          twice = λ i. record { locals = λ c. o.locals (exchange-twice n to (x.old c) i); states = o.states }

          kept : (c : ℕ) → c < n + 1 → flipped n to (x.old c) ≡ c
          kept c less = let stays = is.kept c in let at = put in let past = behind in grind (arith, nat_tests)

      pub counts_more : CountsTo k n o (to + 1) (count + more)
      counts_more = (
        all ++ others,
        record {
          sound = each_join _ all others so_far.1.sound (each_map earlier_sound others later.1.sound);
          complete = λ x is less.
              ⊎_elim
              (λ (under : x.old n < to). has_front (λ b. b ≡ changed_outcome x o) all others (so_far.1.complete x is under))
              (λ (put : x.old n ≡ to). has_back (λ b. b ≡ changed_outcome x o) all others (back x is put))
              (split x less);
          once = pairs_join (λ a b. a ≡ b → ⊥) all others so_far.1.once later.1.once
              (each_map {Q = λ a. AllByRecursion (λ b. a ≡ b → ⊥) others}
              (λ (a : OrderOutcome) (w : (m : ℕ) × (n ≤ m) × (m < to) × (k m ≡ k n) × (o.locals m ≡ a.locals n)).
              each_map {Q = λ b. a ≡ b → ⊥} (λ (b : OrderOutcome) (l : IsLater b) same.
              choice.new (w.0, w.1, w.2, w.3, w.4 ∙ (ap (λ (q : OrderOutcome). q.locals n) same ∙ sym (starts b l)))) others later.1.sound)
              all so_far.1.first);
          first = each_join _ all others firsts
              (each_map {Q = λ b. (m : ℕ) × (n ≤ m) × (m < to + 1) × (k m ≡ k n) × (o.locals m ≡ b.locals n)}
              (λ (b : OrderOutcome) (l : IsLater b). (to, behind, (let z : to < to + 1 = omega arith in z), sym choice.alike, starts b l))
              others later.1.sound);
        },
        length-append all others ∙ (ap (λ m. m + length others) so_far.2 ∙ ap (λ m. count + m) later.2),
      )

-- from the first client on all change places
pub stands : (k : Classes) (o : OrderOutcome) (count : ℕ) → CountsFrom k 0 o count → StandsFor k o count
stands k o count (all, are, long) = (
  all,
  record {
    sound = each_map (λ b (w : (x : Change) × IsChangeFrom k 0 x × (b ≡ changed_outcome x o)). (w.0, w.1.change, w.2)) all are.sound;
    complete = λ x is. are.complete x (record { change = is; kept = λ c less. absurd (omega (arith, less)) });
    once = are.once;
  },
  long,
)

-- whether someone before is of the class and has the same
module _ (k : Classes) (n : ℕ) (o : OrderOutcome) (other : ℕ) where
  abbrev IsIt : ℕ → Type 0
  IsIt c = (n ≤ c) × (k c ≡ k n) × (o.locals c ≡ o.locals other)

  abbrev HasBelow : ℕ → Type 0
  HasBelow m = (c : ℕ) × (n ≤ c) × (c < m) × (k c ≡ k n) × (o.locals c ≡ o.locals other)

  same_lists : (u v : List ℤ) → (u ≡ v) ⊎ (u ≡ v → ⊥)
  same_lists u v = by (pointwise int_eq u v) refl
    where
      by : (b : Bool) → pointwise int_eq u v ≡ b → (u ≡ v) ⊎ (u ≡ v → ⊥)
      by true e = inl ((signed_items u v).0 e)
      by false e = inr (λ same. true≢false (sym ((signed_items u v).1 same) ∙ e))

  is_it : (c : ℕ) → IsIt c ⊎ (IsIt c → ⊥)
  is_it c = elim (cases_lt c n) [
    | inl before ↦ inr (λ w. (let from = w.0 in omega (arith, before, from)))
    | inr from ↦ elim (num_cases (k c) (k n)) [
      | inl alike ↦ elim (same_lists (o.locals c) (o.locals other)) [ inl same ↦ inl (from, alike, same) | inr not ↦ inr (λ w. not w.2) ]
      | inr not ↦ inr (λ w. true≢false (sym (subst (λ m. (k c == m) ≡ true) w.1 (eqb_self (k c))) ∙ not))
    ]
  ]

  has_below : (m : ℕ) → HasBelow m ⊎ (HasBelow m → ⊥)
  has_below zero = inr (λ w. (let less = w.2 in omega (arith, less)))
  has_below (suc m) = elim (has_below m) [
    | inl w ↦ inl (w.0, w.1, (let less = w.2 in omega (arith, less)), w.3, w.4)
    | inr none ↦ elim (is_it m) [
      | inl it ↦ inl (m, it.0, omega arith, it.1, it.2)
      | inr not ↦ inr (λ w. elim (cases_lt w.0 m) [
        | inl under ↦ none (w.0, w.1, under, w.3, w.4)
        | inr past ↦ let e : w.0 ≡ m = (let less = w.2 in omega (arith, less, past)) in not (subst IsIt e (w.1, w.3, w.4))
      ])
    ]
  ]

  choice : IsChoice k o n other ⊎ (k n ≡ k other → HasEarlier k o n other)
  choice = elim (has_below other) [
    | inl w ↦ inr (λ _. w)
    | inr none ↦ elim (num_cases (k n) (k other)) [
      | inl alike ↦ inl (record { alike = alike; new = none })
      | inr not ↦ inr (λ alike. absurd (true≢false (sym (subst (λ m. (k n == m) ≡ true) alike (eqb_self (k n))) ∙ not)))
    ]
  ]

-- So what each client can come to have is gone through, and behind it what is left.
counted_to : (k : Classes) (n : ℕ) (o : OrderOutcome) → ((q : OrderOutcome) → (count : ℕ) × CountsFrom k (n + 1) q count) → (more : ℕ)
    → (count : ℕ) × CountsTo k n o (n + more) count
counted_to k n o next zero = (0, counts_begin k n o (n + 0) (omega arith))
counted_to k n o next (suc more) =
    let so_far = counted_to k n o next more in
    let to : n + more + 1 ≡ n + suc more = omega arith in
    ⊎_elim
    (λ (is : IsChoice k o n (n + more)).
    let later = next (changed_outcome (flip n (n + more)) o) in (
      so_far.0 + later.0,
      subst (λ m. CountsTo k n o m (so_far.0 + later.0)) to (counts_more k n o (n + more) (omega arith) so_far.0 so_far.1 is later.0 later.1),
    ))
    (λ (not : k n ≡ k (n + more) → HasEarlier k o n (n + more)).
    (so_far.0, subst (λ m. CountsTo k n o m so_far.0) to (counts_skip k n o (n + more) (omega arith) so_far.0 so_far.1 not)))
    (choice k n o (n + more))

pub counted_from : (p : ProgramShape) (k : Classes) → AreClasses p k → (left n : ℕ) → n + left ≡ length p.clients → (o : OrderOutcome)
    → (count : ℕ) × CountsFrom k n o count
counted_from p k are zero n all o =
    (1, subst (λ m. CountsFrom k m o 1) (let z : length p.clients ≡ n = omega (arith, all) in z) (counts_none p k are o))
counted_from p k are (suc left) n all o =
    let c = counted_to k n o (λ q. counted_from p k are left (n + 1) (omega (arith, all)) q) (suc left) in
    (c.0, counts_all p k are o n (n + suc left) c.0 (omega (arith, all)) (omega (arith, all)) c.1)
