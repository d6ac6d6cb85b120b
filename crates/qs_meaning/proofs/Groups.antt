-- Nobody disturbs those who go on. A set that was grown from a client is closed after as many rounds as there are
-- clients, since each round that changes it adds a client; the first of the smallest is one of these sets; and it is
-- there where somebody has a block left. Reduced orders stand on it. It goes by induction on the rounds and on the
-- clients.
use Rattle.std.proofs.Common.{◌≡◌, ◌<◌, ◌≤◌, ℕ, zero, suc, Bool, true, false, true≢false, if◌then◌else◌, ◌==◌, ◌&&◌, ◌||◌, nat_lt, List, [], ◌∷◌, length, drop, refl, sym, ap, ◌∙◌, subst, arith, ◌⊎◌, inl, inr}
use Rattle.qs_meaning.proofs.Common.{and_cases, block_at, blocks_of, cases_Bool, client_at, eqb_self, eqb_true, get_or_past, is_in, list_any, nat_tests, no_client, ProgramShape}
use Rattle.qs_meaning.specs.audit.Reduced.{Counts}
use Rattle.qs_meaning.specs.Reduced.{Clients, IsUndisturbed, SomeGoOn, block_reserves, comes_in, first_smallest, goes_on, group_of, has_block_left, many_below, size_of_set, smaller, some_below, still_reserves, widened, wider}

pub or_left : (a b : Bool) → a ≡ true → (a || b) ≡ true
or_left a b e = grind arith

pub or_right : (a b : Bool) → b ≡ true → (a || b) ≡ true
or_right a b e = grind arith

pub or_cases : (a b : Bool) → (a || b) ≡ true → (a ≡ true) ⊎ (b ≡ true)
or_cases a b e = grind arith

pub neither : (a b : Bool) → (a || b) ≡ false → (a ≡ false) × (b ≡ false)
neither a b e = grind arith

pub both_true : (a b : Bool) → a ≡ true → b ≡ true → (a && b) ≡ true
both_true a b e f = grind arith

-- a number below n that is in the set
some_one : (n : ℕ) (set : ℕ → Bool) → some_below n set ≡ true → (i : ℕ) × (i < n) × (set i ≡ true)
some_one zero set e = absurd (true≢false (sym e))
some_one (suc n) set e = elim (or_cases (some_below n set) (set n) e) [
  | inl before ↦ let w = some_one n set before in (w.0, let less = w.1 in omega (arith, less), w.2)
  | inr here ↦ (n, omega arith, here)
]

one_of : (n i : ℕ) (set : ℕ → Bool) → i < n → set i ≡ true → some_below n set ≡ true
one_of zero i set less e = absurd (omega (arith, less))
one_of (suc n) i set less e = let before : i < n → some_below n set ≡ true = λ l. one_of n i set l e in grind (arith, nat_tests)

none_of : (n i : ℕ) (set : ℕ → Bool) → some_below n set ≡ false → i < n → set i ≡ false
none_of n i set none less = let some : set i ≡ true → some_below n set ≡ true = λ e. one_of n i set less e in grind arith

-- how many a larger set has
many_more : (n : ℕ) (a b : ℕ → Bool) → ((i : ℕ) → a i ≡ true → b i ≡ true) → many_below n a ≤ many_below n b
many_more zero a b h = omega arith
many_more (suc n) a b h = let m = many_more n a b h in let k = h n in grind (arith, m, k)

-- and with one more
one_more : (n i : ℕ) (a b : ℕ → Bool) → ((j : ℕ) → a j ≡ true → b j ≡ true) → i < n → a i ≡ false → b i ≡ true → many_below n a < many_below n b
one_more zero i a b h less out within = absurd (omega (arith, less))
one_more (suc n) i a b h less out within =
    let m = many_more n a b h in let k = h n in
    let before : i < n → many_below n a < many_below n b = λ l. one_more n i a b h l out within in grind (arith, nat_tests, m, k)

many_most : (n : ℕ) (a : ℕ → Bool) → many_below n a ≤ n
many_most zero a = omega arith
many_most (suc n) a = let m = many_most n a in grind (arith, m)

-- ---- one of a list

-- none of a list has the property: nor has any of its numbers
not_any : (f : ℕ → Bool) (xs : List ℕ) (x : ℕ) → list_any f xs ≡ false → is_in xs x ≡ true → f x ≡ false
not_any f [] x none is = absurd (true≢false (sym is))
not_any f (y ∷ xs) x none is = elim (or_cases (y == x) (is_in xs x) is) [
  | inl e ↦ subst (λ k. f k ≡ false) (eqb_true y x e) (neither (f y) (list_any f xs) none).0
  | inr later ↦ not_any f xs x (neither (f y) (list_any f xs) none).1 later
]

some_left : {X : Type 0} (f : X → Bool) (xs : List X) (n : ℕ) → list_any f (drop n xs) ≡ true → n < length xs
some_left f [] zero e = absurd (true≢false (sym e))
some_left f [] (suc n) e = absurd (true≢false (sym e))
some_left f (x ∷ xs) zero e = omega arith
some_left f (x ∷ xs) (suc n) e = let less = some_left f xs n e in omega (arith, less)

any_is : {X : Type 0} (f : X → Bool) (xs : List X) → list_any f xs ≡ true → (x : X) × (f x ≡ true)
any_is f [] e = absurd (true≢false (sym e))
any_is f (x ∷ xs) e = elim (or_cases (f x) (list_any f xs) e) [ inl here ↦ (x, here) | inr later ↦ any_is f xs later ]

module _ (p : ProgramShape) (begun : Counts) where
  abbrev n : ℕ
  n = length p.clients

  -- who comes in has a block left, and is one of the program's
  comes_left : (c d : ℕ) → comes_in p begun c d ≡ true → begun d < blocks_of p d
  comes_left c d e =
      let h = any_is (still_reserves p begun d) (block_at p c (begun c)).reserved e in
      some_left (block_reserves h.0) (client_at p d).blocks (begun d) h.1

  pub left_in : (d : ℕ) → begun d < blocks_of p d → d < n
  left_in d left =
      let none : n ≤ d → blocks_of p d ≡ 0 = λ past. ap (λ client. length client.blocks) (get_or_past p.clients d no_client past) in grind (arith, none)

  abbrev Stays : Clients → Type 0
  Stays set = (d : ℕ) → wider p begun set d ≡ true → set d ≡ true

  abbrev Within : Clients → Clients → Type 0
  Within a b = (d : ℕ) → a d ≡ true → b d ≡ true

  widens : (set : Clients) → Within set (wider p begun set)
  widens set d e = or_left (set d) (some_below n (λ c. set c && comes_in p begun c d)) e

  wider_within : (a b : Clients) → Within a b → Within (wider p begun a) (wider p begun b)
  wider_within a b h d e = elim (or_cases (a d) (some_below n (λ c. a c && comes_in p begun c d)) e) [
    | inl here ↦ or_left (b d) (some_below n (λ c. b c && comes_in p begun c d)) (h d here)
    | inr come ↦
        let w = some_one n (λ c. a c && comes_in p begun c d) come in let two = and_cases (a w.0) (comes_in p begun w.0 d) w.2 in
        or_right (b d) (some_below n (λ c. b c && comes_in p begun c d))
        (one_of n w.0 (λ c. b c && comes_in p begun c d) w.1 (both_true (b w.0) (comes_in p begun w.0 d) (h w.0 two.0) two.1))
  ]

  stays_wider : (set : Clients) → Stays set → Stays (wider p begun set)
  stays_wider set stays d e = widens set d (stays d (wider_within (wider p begun set) set stays d e))

  -- a new member is one of the program's
  new_in : (set : Clients) (d : ℕ) → wider p begun set d ≡ true → set d ≡ false → d < n
  new_in set d e out = elim (or_cases (set d) (some_below n (λ c. set c && comes_in p begun c d)) e) [
    | inl here ↦ absurd (true≢false (sym here ∙ out))
    | inr come ↦
        let w = some_one n (λ c. set c && comes_in p begun c d) come in let two = and_cases (set w.0) (comes_in p begun w.0 d) w.2 in
        left_in d (comes_left w.0 d two.1)
  ]

  abbrev fresh : Clients → Clients
  fresh set d = wider p begun set d && (if set d then false else true)

  stays_or_grows : (set : Clients) → Stays set ⊎ (many_below n set < many_below n (wider p begun set))
  stays_or_grows set = by_case (some_below n (fresh set)) refl
    where
      out_of : (b : Bool) → (if b then false else true) ≡ true → b ≡ false
      out_of true e = absurd (true≢false (sym e))
      out_of false e = refl

      by_case : (b : Bool) → some_below n (fresh set) ≡ b → Stays set ⊎ (many_below n set < many_below n (wider p begun set))
      by_case true e =
          let w = some_one n (fresh set) e in let two = and_cases (wider p begun set w.0) (if set w.0 then false else true) w.2 in
          inr (one_more n w.0 set (wider p begun set) (widens set) w.1 (out_of (set w.0) two.1) two.0)
      by_case false e = inl (λ d in_wider. elim (cases_Bool (set d)) [
        | inl here ↦ here
        | inr out ↦
            let one : fresh set d ≡ true = both_true (wider p begun set d) (if set d then false else true) in_wider (rw out refl) in
            absurd (true≢false (sym one ∙ none_of n d (fresh set) e (new_in set d in_wider out)))
      ])

  -- after k rounds nobody comes any more, or more than k are in
  rounds : (set : Clients) → 0 < many_below n set → (k : ℕ) → Stays (widened p begun k set) ⊎ (k < many_below n (widened p begun k set))
  rounds set some zero = inr some
  rounds set some (suc k) = elim (rounds set some k) [
    | inl stays ↦ inl (stays_wider (widened p begun k set) stays)
    | inr many ↦ elim (stays_or_grows (widened p begun k set)) [
      | inl stays ↦ inl (stays_wider (widened p begun k set) stays)
      | inr more ↦ inr (omega (arith, many, more))
    ]
  ]

  group_stays : (c : ℕ) → c < n → Stays (group_of p begun c)
  group_stays c less = elim (rounds (λ d. c == d) one n) [
    | inl stays ↦ stays
    | inr many ↦ let most = many_most n (group_of p begun c) in absurd (omega (arith, many, most))
  ]
    where
      one : 0 < many_below n (λ d. c == d)
      one = let more = one_more n c (λ d. false) (λ d. c == d) (λ j e. absurd (true≢false (sym e))) less refl (eqb_self c) in omega (arith, more)

  widened_has : (c k : ℕ) → widened p begun k (λ d. c == d) c ≡ true
  widened_has c zero = eqb_self c
  widened_has c (suc k) = widens (widened p begun k (λ d. c == d)) c (widened_has c k)

  widened_left : (c k d : ℕ) → begun c < blocks_of p c → widened p begun k (λ d. c == d) d ≡ true → begun d < blocks_of p d
  widened_left c zero d left e = subst (λ k. begun k < blocks_of p k) (eqb_true c d e) left
  widened_left c (suc k) d left e =
      elim (or_cases (widened p begun k (λ d. c == d) d) (some_below n (λ b. widened p begun k (λ d. c == d) b && comes_in p begun b d)) e) [
        | inl before ↦ widened_left c k d left before
        | inr come ↦
            let w = some_one n (λ b. widened p begun k (λ d. c == d) b && comes_in p begun b d) come in
            comes_left w.0 d (and_cases (widened p begun k (λ d. c == d) w.0) (comes_in p begun w.0 d) w.2).1
      ]

  -- a set that stays, all of whose members have a block left, is not disturbed
  undisturbed : (set : Clients) → ((c : ℕ) → set c ≡ true → begun c < blocks_of p c) → Stays set → IsUndisturbed p begun set
  undisturbed set left stays = record {
    left = left;
    apart = λ c d h member out reserved. elim (cases_Bool (comes_in p begun c d)) [
      | inl come ↦
          absurd (true≢false (sym (stays d (or_right (set d) (some_below n (λ b. set b && comes_in p begun b d))
          (one_of n c (λ b. set b && comes_in p begun b d) (left_in c (left c member)) (both_true (set c) (comes_in p begun c d) member come)))) ∙ out))
      | inr apart ↦ not_any (still_reserves p begun d) (block_at p c (begun c)).reserved h apart reserved
    ];
  }

  group_undisturbed : (c : ℕ) → begun c < blocks_of p c → IsUndisturbed p begun (group_of p begun c)
  group_undisturbed c left = undisturbed (group_of p begun c) (λ d e. widened_left c n d left e) (group_stays c (left_in c left))

  nobody_undisturbed : IsUndisturbed p begun (λ _. false)
  nobody_undisturbed = record { left = λ c e. absurd (true≢false (sym e)); apart = λ c d h e. absurd (true≢false (sym e)) }

  smaller_is : (P : Clients → Type 0) (one other : Clients) → P one → P other → P (smaller p one other)
  smaller_is P one other a b = by_case (size_of_set p one == 0 || nat_lt (size_of_set p other) (size_of_set p one))
    where
      by_case : (x : Bool) → P (if x then other else one)
      by_case true = b
      by_case false = a

  first_undisturbed : (k : ℕ) → IsUndisturbed p begun (first_smallest p begun k)
  first_undisturbed zero = nobody_undisturbed
  first_undisturbed (suc k) = by_case (has_block_left p begun k) refl (first_undisturbed k)
    where
      by_case : (b : Bool) → has_block_left p begun k ≡ b → IsUndisturbed p begun (first_smallest p begun k)
          → IsUndisturbed p begun (if b then smaller p (first_smallest p begun k) (group_of p begun k) else first_smallest p begun k)
      by_case true e before = smaller_is (IsUndisturbed p begun) (first_smallest p begun k) (group_of p begun k) before (group_undisturbed k (grind (arith, nat_tests)))
      by_case false e before = before

  abbrev HasMember : Clients → Type 0
  HasMember set = 0 < size_of_set p set

  group_has : (c : ℕ) → c < n → HasMember (group_of p begun c)
  group_has c less =
      let more = one_more n c (λ d. false) (group_of p begun c) (λ j e. absurd (true≢false (sym e))) less refl (widened_has c n) in omega (arith, more)

  smaller_has : (one other : Clients) → HasMember other → HasMember (smaller p one other)
  smaller_has one other has = grind (arith, nat_tests)

  first_has : (k c : ℕ) → c < k → begun c < blocks_of p c → HasMember (first_smallest p begun k)
  first_has zero c less left = absurd (omega (arith, less))
  first_has (suc k) c less left = by_case (has_block_left p begun k) refl (first_has k c)
    where
      here : has_block_left p begun k ≡ true → HasMember (smaller p (first_smallest p begun k) (group_of p begun k))
      here e = smaller_has (first_smallest p begun k) (group_of p begun k) (group_has k (left_in k (grind (arith, nat_tests))))

      by_case : (b : Bool) → has_block_left p begun k ≡ b → (c < k → begun c < blocks_of p c → HasMember (first_smallest p begun k))
          → HasMember (if b then smaller p (first_smallest p begun k) (group_of p begun k) else first_smallest p begun k)
      by_case true e before = here e
      by_case false e before = before (grind (arith, nat_tests)) left

many_one : (m : ℕ) (set : ℕ → Bool) → 0 < many_below m set → (i : ℕ) × (set i ≡ true)
many_one zero set some = absurd (omega (arith, some))
many_one (suc m) set some = elim (cases_Bool (set m)) [ inl e ↦ (m, e) | inr out ↦ many_one m set (rw out at some) ]

pub some_go_on : SomeGoOn
some_go_on p begun = record {
  undisturbed = first_undisturbed p begun (length p.clients);
  some = λ c left. many_one (length p.clients) (goes_on p begun) (first_has p begun (length p.clients) c (left_in p begun c left) left);
}
