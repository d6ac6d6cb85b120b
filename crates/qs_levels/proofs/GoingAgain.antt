-- Who goes on is the same once a client's next block has run, if the block behind it reserves the same objects: then the
-- client comes in the way of the same clients, and the same come in its way, with a block left as before. So each set
-- that is grown from a client is the same, and so is the first of the smallest. It goes by induction on rounds and clients.
use Rattle.qs_levels.proofs.Common.{block_at, block_reserves, blocks_of, BlockShape, client_at, Clients, comes_in, Counts, first_smallest, goes_on, has_block_left, list_any, nat_tests, no_block, ProgramShape, put, smaller, some_below, still_reserves, widened, wider}
use Rattle.qs_levels.proofs.Common.{◌≡◌, ◌<◌, ℕ, zero, suc, if◌then◌else◌, ◌==◌, ◌&&◌, ◌||◌, nat_lt, List, ◌∷◌, length, get_or, drop, refl, sym, ap, ◌∙◌, arith, ReservesAgain, rules}
use Rattle.qs_program.specs.audit.Sound.{is_in}

-- the block behind has what the block before it has
behind : (bs : List BlockShape) (n h : ℕ) → suc n < length bs → (get_or bs n no_block).reserved ≡ (get_or bs (suc n) no_block).reserved
    → list_any (block_reserves h) (drop (suc n) bs) ≡ list_any (block_reserves h) (drop n bs)
behind (b ∷ d ∷ bs) zero h less same =
    let e : block_reserves h b ≡ block_reserves h d = ap (λ xs. is_in xs h) same in
    let any : (block_reserves h d || list_any (block_reserves h) bs) ≡ (block_reserves h b || (block_reserves h d || list_any (block_reserves h) bs)) = grind (arith, e) in any
behind (b ∷ d ∷ bs) (suc n) h less same = behind (d ∷ bs) n h (let z : suc (suc n) < length (b ∷ d ∷ bs) = less in omega (arith, z)) same
behind _ n h less same = absurd (omega (arith, less))

module _ (p : ProgramShape) (begun : Counts) (c : ℕ) (again : ReservesAgain p begun c) where
  abbrev later : Counts
  later = put begun c (suc (begun c))

  -- what holds of the client by both counts, and of each other one by the same count, holds of all
  by_client : {A : Type 0} (f : ℕ → ℕ → A) → f c (suc (begun c)) ≡ f c (begun c) → (d : ℕ) → f d (later d) ≡ f d (begun d)
  by_client f own d = grind (arith, nat_tests)

  still : (d h : ℕ) → still_reserves p later d h ≡ still_reserves p begun d h
  still d h = by_client (λ d n. list_any (block_reserves h) (drop n (client_at p d).blocks)) (behind (client_at p c).blocks (begun c) h again.left again.same) d

  next : (d : ℕ) → (block_at p d (later d)).reserved ≡ (block_at p d (begun d)).reserved
  next d = by_client (λ d n. (block_at p d n).reserved) (sym again.same) d

  left : (d : ℕ) → has_block_left p later d ≡ has_block_left p begun d
  left d = search (rules, by_client)

  comes : (a b : ℕ) → comes_in p later a b ≡ comes_in p begun a b
  comes a b = let xs = next a in λ i. list_any (λ h. still b h i) (xs i)

  grows : (set : Clients) → wider p later set ≡ wider p begun set
  grows set = λ i d. set d || some_below (length p.clients) (λ a. set a && comes a d i)

  grown : (n : ℕ) (set : Clients) → widened p later n set ≡ widened p begun n set
  grown zero set = refl
  grown (suc n) set = grows (widened p later n set) ∙ ap (wider p begun) (grown n set)

  smallest : (n : ℕ) → first_smallest p later n ≡ first_smallest p begun n
  smallest zero = refl
  smallest (suc n) =
      let best = smallest n in let group = grown (length p.clients) (λ d. n == d) in let has = left n in
      λ i. if has i then smaller p (best i) (group i) else best i

  pub goes_on_again : goes_on p later ≡ goes_on p begun
  goes_on_again = smallest (length p.clients)
