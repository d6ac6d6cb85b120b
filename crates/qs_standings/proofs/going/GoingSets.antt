-- Sets as bytes, and the last block of a client that reserves an object: what each step of the loops that find who goes
-- on does to the set that it stands for. It goes by cases on bits, and by induction on lists and rounds.
use Rattle.std.proofs.Common.{◌≡◌, ◌<◌, ◌≤◌, ◌+◌, ◌*◌, ◌%◌, ◌/◌, ◌^◌, ℕ, zero, suc, Bool, true, false, true≢false, if◌then◌else◌, ◌==◌, ◌&&◌, ◌||◌, nat_lt, max, List, [], ◌∷◌, ◌++◌, length, get_or, drop, take, refl, sym, ap, ap₂, add-one, ◌∙◌, subst, arith, inl, inr, bit_and, bit_or, w8, get_or-set_same, get_or-set_other, slice_set, length-set}
use Rattle.std.specs.Int.{bit_at}
use Rattle.qs_standings.proofs.Common.{block_reserves, blocks_of, BlockShape, cases_Bool, cases_eq, client_at, Clients, comes_in, eqb_apart, eqb_self, get_or_past, group_of, IsSound, list_any, many_below, most_clients, most_objects, nat_tests, no_block, no_client, ProgramShape, size_of_set, smaller, some_below, still_reserves, take_more, widened, wider}
use Rattle.std.proofs.lemmas.Nat.Bits.{bit_at_or, bit_at-lt, bit_at-zero, bit_at_set_same, bit_at_set_other, shr_and_one}
use mathlib.Core.Bool.{or-false, or-true}
use Rattle.qs_meaning.specs.audit.Reduced.{Counts}
use Rattle.qs_standings.specs.going.Going.{AreComers, AreLast, IsGrown, begun_counts, in_byte}

either_one : (x y : ℕ) → x < 2 → y < 2 → (max x y == 1) ≡ (x == 1) || (y == 1)
either_one x y a b = grind (arith, nat_tests)

pub in_or : (a b c : ℕ) → in_byte (bit_or a b) c ≡ in_byte a c || in_byte b c
in_or a b c = ap (λ x. x == 1) (bit_at_or a b c) ∙ either_one (bit_at a c) (bit_at b c) (bit_at-lt a c) (bit_at-lt b c)

-- with one more
pub in_with : (s c k : ℕ) → c < 8 → in_byte (bit_or s (1 * 2 ^ c % 256)) k ≡ in_byte s k || (c == k)
in_with s c k below = elim (cases_eq c k) [
  | inl same ↦
      subst (λ j. in_byte (bit_or s (1 * 2 ^ c % 256)) j ≡ in_byte s j || (c == j)) same
      (ap (λ x. x == 1) (bit_at_set_same w8 s c below) ∙ sym (rw (eqb_self c) (or-true (in_byte s c))))
  | inr other ↦
      ap (λ x. x == 1) (bit_at_set_other w8 s c below k (λ e. other (sym e))) ∙ sym (rw (eqb_apart c k other) (or-false (in_byte s k)))
]

pub in_none : (k : ℕ) → in_byte 0 k ≡ false
in_none k = ap (λ x. x == 1) (bit_at-zero k)

-- one alone
pub in_one : (c : ℕ) → c < 8 → in_byte (1 * 2 ^ c % 256) ≡ (λ k. c == k)
in_one c below = λ i k. at k i
  where
    at : (k : ℕ) → in_byte (1 * 2 ^ c % 256) k ≡ (c == k)
    at k = in_with 0 c k below ∙ ap (λ b. b || (c == k)) (in_none k)

-- the bit that the code reads
pub in_shifted : (set c : ℕ) → (bit_and (set / 2 ^ c) 1 == 1) ≡ in_byte set c
in_shifted set c = ap (λ b. b == 1) (shr_and_one set c)

pub any_snoc : {X : Type 0} (f : X → Bool) (xs : List X) (x : X) → list_any f (xs ++ x ∷ []) ≡ list_any f xs || f x
any_snoc f [] x = or-false (f x)
any_snoc f (y ∷ xs) x = let e = any_snoc f xs x in grind (arith, e)

-- ---- who reserves an object still

-- one more client, who does or does not
pub client_more : (still : ℕ → Bool) (i set : ℕ) → i < 8 → still i ≡ true → ((c : ℕ) → in_byte set c ≡ (nat_lt c i && still c))
    → (c : ℕ) → in_byte (bit_or set (1 * 2 ^ i % 256)) c ≡ (nat_lt c (i + 1) && still c)
client_more still i set small is before c = in_with set i c small ∙ (ap (λ b. b || (i == c)) (before c) ∙ step)
  where
    step : ((nat_lt c i && still c) || (i == c)) ≡ (nat_lt c (i + 1) && still c)
    step = let e = is in grind (arith, nat_tests)

pub client_skipped : (still : ℕ → Bool) (i set : ℕ) → still i ≡ false → ((c : ℕ) → in_byte set c ≡ (nat_lt c i && still c))
    → (c : ℕ) → in_byte set c ≡ (nat_lt c (i + 1) && still c)
client_skipped still i set no_more before c = before c ∙ step
  where
    step : (nat_lt c i && still c) ≡ (nat_lt c (i + 1) && still c)
    step = let e = no_more in grind (arith, nat_tests)

-- what the last block tells of a client
module _ (p : ProgramShape) (begun : List ℕ) (last : List (List ℕ)) (are : AreLast p last) (i place h : ℕ) (client : i < length p.clients) (small : h < most_objects) (is : place ≡ i) where
  tells : still_reserves p (begun_counts begun) i h ≡ nat_lt (get_or begun place 0) (get_or (get_or last place []) h 0)
  tells = are.each i client (get_or begun i 0) h small ∙ (λ k. nat_lt (get_or begun (sym is k) 0) (get_or (get_or last (sym is k) []) h 0))

  pub still_so : get_or begun place 0 < get_or (get_or last place []) h 0 → still_reserves p (begun_counts begun) i h ≡ true
  still_so less = tells ∙ grind (arith, nat_tests)

  pub no_more : get_or (get_or last place []) h 0 ≤ get_or begun place 0 → still_reserves p (begun_counts begun) i h ≡ false
  no_more past = tells ∙ grind (arith, nat_tests)

-- a client that is not there has no block left
pub nobody_past : (p : ProgramShape) (begun : Counts) (c h : ℕ) → length p.clients ≤ c → still_reserves p begun c h ≡ false
nobody_past p begun c h past =
    ap (λ client. list_any (block_reserves h) (drop (begun c) client.blocks)) (get_or_past p.clients c no_client past) ∙ none (begun c)
  where
    none : (n : ℕ) → list_any (block_reserves h) (drop n no_client.blocks) ≡ false
    none zero = refl
    none (suc n) = refl

pub all_clients : (p : ProgramShape) (begun : Counts) (h i set : ℕ) → length p.clients ≤ i
    → ((c : ℕ) → in_byte set c ≡ (nat_lt c i && still_reserves p begun c h)) → in_byte set ≡ (λ c. still_reserves p begun c h)
all_clients p begun h i set past each = λ k c. at c k
  where
    whole : (c : ℕ) (b : Bool) → nat_lt c i ≡ b → (b && still_reserves p begun c h) ≡ still_reserves p begun c h
    whole c true e = refl
    whole c false e = sym (nobody_past p begun c h (let over : i ≤ c = grind (arith, nat_tests) in omega (arith, past, over)))

    at : (c : ℕ) → in_byte set c ≡ still_reserves p begun c h
    at c = each c ∙ whole c (nat_lt c i) refl

-- ---- one more object of a list

pub objects_more : (f : ℕ → ℕ → Bool) (xs : List ℕ) (i x set row : ℕ) → i < length xs → x ≡ get_or xs i 0 → in_byte row ≡ (λ d. f d x)
    → ((d : ℕ) → in_byte set d ≡ list_any (f d) (take i xs)) → (d : ℕ) → in_byte (bit_or set row) d ≡ list_any (f d) (take (i + 1) xs)
objects_more f xs i x set row within is here before d =
    in_or set row d
    ∙ (ap₂ (λ a b. a || b) (before d) (λ i. here i d)
    ∙ (sym (any_snoc (f d) (take i xs) x) ∙ ap (list_any (f d)) (ap (λ y. take i xs ++ y ∷ []) is ∙ sym (take_more xs i 0 within))))

-- ---- a row that is written place by place

pub set_more : (P : ℕ → ℕ → Type 0) (xs : List ℕ) (i v : ℕ) → i < length xs → P i v → ((h : ℕ) → h < i → P h (get_or xs h 0))
    → (h : ℕ) → h < i + 1 → P h (get_or (slice_set xs i v) h 0)
set_more P xs i v within here before h less = elim (cases_eq h i) [
  | inl same ↦ subst (λ h. P h (get_or (slice_set xs i v) h 0)) (sym same) (subst (P i) (sym (get_or-set_same xs i v 0 within)) here)
  | inr other ↦ subst (P h) (sym (get_or-set_other xs i h v 0 other)) (before h (omega (arith, less, other)))
]

pub keep_more : (P : ℕ → ℕ → Type 0) (xs : List ℕ) (i : ℕ) → P i (get_or xs i 0) → ((h : ℕ) → h < i → P h (get_or xs h 0))
    → (h : ℕ) → h < i + 1 → P h (get_or xs h 0)
keep_more P xs i here before h less = elim (cases_eq h i) [
  | inl same ↦ subst (λ h. P h (get_or xs h 0)) (sym same) here
  | inr other ↦ before h (omega (arith, less, other))
]

pub later_kept : (xs : List ℕ) (i v h : ℕ) → i + 1 ≤ h → get_or (slice_set xs i v) h 0 ≡ get_or xs h 0
later_kept xs i v h past = get_or-set_other xs i h v 0 (λ e. omega (arith, past, e))

-- who has no block left, in whose way nobody comes
pub none_comes : (p : ProgramShape) (begun : Counts) (c : ℕ) → blocks_of p c ≤ begun c → in_byte 0 ≡ comes_in p begun c
none_comes p begun c past = λ i d. at d i
  where
    at : (d : ℕ) → in_byte 0 d ≡ comes_in p begun c d
    at d = in_none d ∙ sym (ap (λ (b : BlockShape). list_any (still_reserves p begun d) b.reserved) (get_or_past (client_at p c).blocks (begun c) no_block past))

-- ---- growing

pub member_more : (set all row i : ℕ) (comes : ℕ → ℕ → Bool) → in_byte row ≡ comes i → in_byte set i ≡ true
    → ((d : ℕ) → in_byte all d ≡ (in_byte set d || some_below i (λ c. in_byte set c && comes c d)))
    → (d : ℕ) → in_byte (bit_or all row) d ≡ (in_byte set d || some_below (i + 1) (λ c. in_byte set c && comes c d))
member_more set all row i comes here is before d =
    in_or all row d
    ∙ (ap₂ (λ a b. a || b) (before d) (λ k. here k d)
    ∙ (or_assoc (in_byte set d) (some_below i (λ c. in_byte set c && comes c d)) (comes i d)
    ∙ rw add-one (ap (λ b. in_byte set d || (some_below i (λ c. in_byte set c && comes c d) || b)) (ap (λ b. b && comes i d) (sym is)))))
  where
    or_assoc : (a b c : Bool) → ((a || b) || c) ≡ (a || (b || c))
    or_assoc a b c = grind arith

pub member_skipped : (set all i : ℕ) (comes : ℕ → ℕ → Bool) → in_byte set i ≡ false
    → ((d : ℕ) → in_byte all d ≡ (in_byte set d || some_below i (λ c. in_byte set c && comes c d)))
    → (d : ℕ) → in_byte all d ≡ (in_byte set d || some_below (i + 1) (λ c. in_byte set c && comes c d))
member_skipped set all i comes out before d =
    before d
    ∙ rw add-one (ap (λ b. in_byte set d || b) (sym (or-false (some_below i (λ c. in_byte set c && comes c d)))
    ∙ ap (λ b. some_below i (λ c. in_byte set c && comes c d) || b) (ap (λ b. b && comes i d) (sym out))))

-- a set to which nobody comes stays
pub stays : (p : ProgramShape) (begun : Counts) (set first : Clients) (i m : ℕ) → i ≤ m → wider p begun set ≡ set → set ≡ widened p begun i first → set ≡ widened p begun m first
stays p begun set first i zero most same is = subst (λ k. set ≡ widened p begun k first) (let z : i ≡ 0 = omega (arith, most) in z) is
stays p begun set first i (suc m) most same is = elim (cases_eq i (suc m)) [
  | inl e ↦ subst (λ k. set ≡ widened p begun k first) e is
  | inr other ↦ sym same ∙ ap (wider p begun) (stays p begun set first i m (omega (arith, most, other)) same is)
]

pub count_more : (i set : ℕ) → in_byte set i ≡ true → suc (many_below i (in_byte set)) ≡ many_below (i + 1) (in_byte set)
count_more i set is = rw add-one (sym (ap (λ (b : Bool). if b then suc (many_below i (in_byte set)) else many_below i (in_byte set)) is))

pub count_same : (i set : ℕ) → in_byte set i ≡ false → many_below i (in_byte set) ≡ many_below (i + 1) (in_byte set)
count_same i set is = rw add-one (sym (ap (λ (b : Bool). if b then suc (many_below i (in_byte set)) else many_below i (in_byte set)) is))

-- what the test of a bit tells
pub in_set : (set c : ℕ) → bit_and (set / 2 ^ c) 1 ≡ 1 → in_byte set c ≡ true
in_set set c is = sym (in_shifted set c) ∙ (ap (λ b. b == 1) is ∙ eqb_self 1)

pub out_of_set : (set c : ℕ) → (bit_and (set / 2 ^ c) 1 ≡ 1 → ⊥) → in_byte set c ≡ false
out_of_set set c is = sym (in_shifted set c) ∙ eqb_apart (bit_and (set / 2 ^ c) 1) 1 is

-- the rows up to a client, where one was written or left at nobody
pub record RowsUpTo (p : ProgramShape) (begun rows : List ℕ) (i : ℕ) : Type 0 where
  pub long : length rows ≡ most_clients
  pub done : (c : ℕ) → c < i → in_byte (get_or rows c 0) ≡ comes_in p (begun_counts begun) c
  pub rest : (c : ℕ) → i ≤ c → get_or rows c 0 ≡ 0

pub row_written : (p : ProgramShape) (begun rows : List ℕ) (i v : ℕ) → RowsUpTo p begun rows i → i < most_clients → in_byte v ≡ comes_in p (begun_counts begun) i
    → RowsUpTo p begun (slice_set rows i v) (i + 1)
row_written p begun rows i v up few here = record {
  long = length-set rows i v ∙ up.long;
  done = set_more (λ c row. in_byte row ≡ comes_in p (begun_counts begun) c) rows i v (let l = up.long in omega (arith, l, few)) here up.done;
  rest = λ c past. later_kept rows i v c past ∙ up.rest c (omega (arith, past));
}

pub row_left : (p : ProgramShape) (begun rows : List ℕ) (i : ℕ) → RowsUpTo p begun rows i → blocks_of p i ≤ get_or begun i 0 → RowsUpTo p begun rows (i + 1)
row_left p begun rows i up none = record {
  long = up.long;
  done = keep_more (λ c row. in_byte row ≡ comes_in p (begun_counts begun) c) rows i
      (ap in_byte (up.rest i (omega arith)) ∙ none_comes p (begun_counts begun) i none) up.done;
  rest = λ c past. up.rest c (omega (arith, past));
}

-- ---- sets that were grown before

after_first : (p : ProgramShape) (begun : Counts) (n : ℕ) (set : Clients) → widened p begun (suc n) set ≡ widened p begun n (wider p begun set)
after_first p begun zero set = refl
after_first p begun (suc n) set = ap (wider p begun) (after_first p begun n set)

same_rounds : (p : ProgramShape) (begun : Counts) (n : ℕ) (a b : Clients) → 0 < n → wider p begun a ≡ wider p begun b → widened p begun n a ≡ widened p begun n b
same_rounds p begun zero a b some e = absurd (omega (arith, some))
same_rounds p begun (suc n) a b some e = after_first p begun n a ∙ (ap (widened p begun n) e ∙ sym (after_first p begun n b))

-- two clients whose sets are one after the first round
pub same_groups : (p : ProgramShape) (begun : Counts) (c d : ℕ) → c < length p.clients → wider p begun (λ k. c == k) ≡ wider p begun (λ k. d == k)
    → group_of p begun c ≡ group_of p begun d
same_groups p begun c d within e = same_rounds p begun (length p.clients) (λ k. c == k) (λ k. d == k) (omega (arith, within)) e

-- one number is below n, or not
none_below : (c n : ℕ) (f : ℕ → Bool) → n ≤ c → some_below n (λ k. (c == k) && f k) ≡ false
none_below c zero f past = refl
none_below c (suc n) f past =
    rw (none_below c n f (omega (arith, past)), eqb_apart c n (λ e. omega (arith, e, past))) refl

one_below : (c n : ℕ) (f : ℕ → Bool) → c < n → some_below n (λ k. (c == k) && f k) ≡ f c
one_below c zero f within = absurd (omega (arith, within))
one_below c (suc n) f within =
    let before : c < n → some_below n (λ k. (c == k) && f k) ≡ f c = one_below c n f in
    let none : n ≤ c → some_below n (λ k. (c == k) && f k) ≡ false = none_below c n f in grind (arith, nat_tests)

-- the set of one client after its first round: the client, and who comes in the way of its next block
pub first_round : (p : ProgramShape) (begun : Counts) (c row : ℕ) → c < length p.clients → c < 8 → in_byte row ≡ comes_in p begun c
    → wider p begun (λ k. c == k) ≡ in_byte (bit_or (1 * 2 ^ c % 256) row)
first_round p begun c row within below here = λ i d. at d i
  where
    at : (d : ℕ) → wider p begun (λ k. c == k) d ≡ in_byte (bit_or (1 * 2 ^ c % 256) row) d
    at d =
        ap (λ b. (c == d) || b) (one_below c (length p.clients) (λ k. comes_in p begun k d) within)
        ∙ sym (in_or (1 * 2 ^ c % 256) row d ∙ ap₂ (λ a b. a || b) (λ i. in_one c below i d) (λ i. here i d))

-- as the code reads it
pub first_of : (p : ProgramShape) (begun rows : List ℕ) (c place : ℕ) → IsSound p → c < length p.clients → AreComers p begun rows → place ≡ c
    → wider p (begun_counts begun) (λ k. c == k) ≡ in_byte (bit_or (1 * 2 ^ c % 256) (get_or rows place 0))
first_of p begun rows c place sound within comers at =
    first_round p (begun_counts begun) c (get_or rows c 0) within (omega (arith, sound.clients, within)) (comers c within)
    ∙ sym (ap (λ k. in_byte (bit_or (1 * 2 ^ c % 256) (get_or rows k 0))) at)

-- no set is grown yet
pub none_grown : (p : ProgramShape) (begun : List ℕ) → IsGrown p begun 0 0
none_grown p begun c within e = absurd (true≢false (sym here ∙ (ap (λ (f : Clients). f c) e ∙ in_none c)))
  where
    here : wider p (begun_counts begun) (λ d. c == d) c ≡ true
    here = rw (eqb_self c) refl

-- of a set and itself
pub smaller_same : (p : ProgramShape) (set : Clients) → set ≡ smaller p set set
smaller_same p set = elim (cases_Bool (size_of_set p set == 0 || nat_lt (size_of_set p set) (size_of_set p set))) [ inl e ↦ rw e refl | inr e ↦ rw e refl ]
