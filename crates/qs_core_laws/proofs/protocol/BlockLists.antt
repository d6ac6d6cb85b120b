-- Where lists are kept block by block and then joined, and the last block's list grows, the joined list grows by the
-- same at its end; a new block with an empty list adds nothing. What a client did in its whole run is listed block by
-- block (`BlockTales`, `HistoryCounts`), and grows so with each act. Only the last block's list changes, so those
-- before it are joined as before.
use Rattle.std.proofs.Common.{◌≡◌, ◌<◌, arith, ℕ, zero, suc, false, ◌==◌, List, [], ◌∷◌, ◌++◌, length, slice_index_or, slice_set, refl, ap₂, append_assoc, append-nil, get_or-set_same, get_or-set_other, rules}
use Rattle.qs_played.proofs.Names.{get_or-append, get_or_push, eqb_apart, apart_eqb, num_cases, put, put_here, put_there}
use Rattle.qs_core_laws.specs.protocol.ClientHistories.{upto}

pub upto_same : {A : Type 0} (f g : ℕ → List A) (n : ℕ) → ((k : ℕ) → k < n → f k ≡ g k) → upto f n ≡ upto g n
upto_same f g zero e = refl
upto_same f g (suc n) e = ap₂ (λ a b. a ++ b) (upto_same f g n (λ k lt. e k (omega (arith, lt)))) (e n (omega arith))

-- a number before another is not that one
pub after_not : (k j : ℕ) → j < k → (k == j) ≡ false
after_not k j lt = eqb_apart k j (λ is. omega (arith, lt, is))

pub before_not : (k j : ℕ) → k < j → (k == j) ≡ false
before_not k j lt = eqb_apart k j (λ is. omega (arith, lt, is))

-- the last of them grows
pub upto_more : {A B : Type 0} (of : B → List A) (f : ℕ → B) (k : ℕ) (b : B) (more : List A) → of b ≡ of (f k) ++ more
    → upto (λ j. of (put f k b j)) (suc k) ≡ upto (λ j. of (f j)) (suc k) ++ more
upto_more of f k b more e = search (rules, upto_same, put_there, after_not, put_here, append_assoc)

-- an empty one more
pub upto_new : {A B : Type 0} (of : B → List A) (f : ℕ → B) (k : ℕ) (b : B) → of b ≡ []
    → upto (λ j. of (put f k b j)) (suc k) ≡ upto (λ j. of (f j)) k
upto_new of f k b e = search (rules, upto_same, put_there, after_not, put_here, append-nil)

-- a row is another
pub row_set : {A : Type 0} (rows : List (List A)) (k : ℕ) (row : List A) → k < length rows
    → (j : ℕ) → put (λ j. slice_index_or rows j []) k row j ≡ slice_index_or (slice_set rows k row) j []
row_set rows k row inside j = search (rules, slice_index_or, slice_set, put_here, get_or-set_same, put_there, get_or-set_other, apart_eqb, num_cases)

-- a row comes after the rows that are there
pub row_push : {A : Type 0} (rows : List (List A)) (k : ℕ) (row : List A) → length rows ≡ k
    → (j : ℕ) → j < suc k → put (λ j. slice_index_or rows j []) k row j ≡ slice_index_or (rows ++ row ∷ []) j []
row_push rows k row long j lt = search (rules, slice_index_or, put_here, get_or_push, apart_eqb, put_there, get_or-append, num_cases)
