-- The row of where a block leads, from the row of where it began: the count and the variables of its client are others,
-- and the objects. So the search writes a row without another look at the other clients. A number that is put into the
-- front part of a row leaves the back part as it is, and the other way round; the clients' variables stand one after
-- another, each client's as many as its text names.
use Rattle.std.proofs.Common.{◌≡◌, ◌<◌, ◌≤◌, ◌+◌, ℕ, zero, suc, List, [], ◌∷◌, ◌++◌, length, get_or, take, drop, flat_map, refl, sym, ap, ◌∙◌, subst, arith, length-append, add-one, ℤ, replicate, slice_set}
use Rattle.std.proofs.Math.Seq.{drop-cons, take-append_seam}
use Rattle.qs_standings.proofs.Common.{client_at, drop_all, IsSound, length-set, length-take, Locals, most_clients, most_variables, ProgramShape, set-append_left, State, Ticket, zeros}
use Rattle.qs_standings.specs.Rows.{named_before, overwritten}
use Rattle.qs_standings.specs.Standings.{IsStanding, StandingShape, named_from, padded, row_of, state_row, standing_with_block}
use Rattle.qs_standings.proofs.RowSteps.{few_variables}
use Rattle.qs_standings.proofs.RowTells.{named}

set_behind : (xs ys : List ℤ) (i : ℕ) (v : ℤ) → slice_set (xs ++ ys) (length xs + i) v ≡ xs ++ slice_set ys i v
set_behind [] ys i v = λ k. slice_set ys (let e : 0 + i ≡ i = omega arith in e k) v
set_behind (x ∷ xs) ys i v =
    (λ k. slice_set (x ∷ (xs ++ ys)) (let e : length (x ∷ xs) + i ≡ suc (length xs + i) = omega arith in e k) v)
    ∙ ap (λ zs. x ∷ zs) (set_behind xs ys i v)

pub over_behind : (xs ys : List ℤ) (place : ℕ) (vs : List ℤ) → overwritten (xs ++ ys) (length xs + place) vs ≡ xs ++ overwritten ys place vs
over_behind xs ys place [] = refl
over_behind xs ys place (v ∷ vs) =
    (λ i. overwritten (set_behind xs ys place v i) (let e : suc (length xs + place) ≡ length xs + suc place = omega arith in e i) vs)
    ∙ over_behind xs (slice_set ys place v) (suc place) vs

pub over_whole : (xs rest vs : List ℤ) → length xs ≡ length vs → overwritten (xs ++ rest) 0 vs ≡ vs ++ rest
over_whole [] rest [] e = refl
over_whole [] rest (v ∷ vs) e = absurd (let h : 0 ≡ length (v ∷ vs) = e in omega (arith, h))
over_whole (x ∷ xs) rest [] e = absurd (let h : length (x ∷ xs) ≡ 0 = e in omega (arith, h))
over_whole (x ∷ xs) rest (v ∷ vs) e =
    over_behind (v ∷ []) (xs ++ rest) 0 vs
    ∙ ap (λ ys. v ∷ ys) (over_whole xs rest vs (let h : length (x ∷ xs) ≡ length (v ∷ vs) = e in omega (arith, h)))

-- one more number is put, and none is left
pub over_more : (row numbers : List ℤ) (first i : ℕ) (x d : ℤ) → i < length numbers → x ≡ get_or numbers i d
    → overwritten (slice_set row (first + i) x) (first + (i + 1)) (drop (i + 1) numbers) ≡ overwritten row (first + i) (drop i numbers)
over_more row numbers first i x d within is =
    (λ k. overwritten (slice_set row (first + i) (is k)) (let e : first + (i + 1) ≡ suc (first + i) = omega arith in e k) (drop (add-one i k) numbers))
    ∙ sym (ap (overwritten row (first + i)) (drop-cons numbers i d within))

pub over_end : (row numbers : List ℤ) (place i : ℕ) → length numbers ≤ i → overwritten row place (drop i numbers) ≡ row
over_end row numbers place i past = ap (overwritten row place) (drop_all i numbers past)

-- a slice that is as long as all takes the place of all
pub whole : (old new : List ℤ) (n : ℕ) → length new ≡ n → take n (new ++ drop (length new) old) ≡ new
whole old new n long = (λ i. take (sym long i) (new ++ drop (length new) old)) ∙ take-append_seam new (drop (length new) old)

-- one more client's variables
pub before_more : (p : ProgramShape) (k c : ℕ) → named_before p k (suc c) ≡ named_before p k c + length (client_at p (k + c)).variables
before_more p k zero =
    let e : k ≡ k + 0 = omega arith in
    let same : length (client_at p k).variables ≡ length (client_at p (k + 0)).variables = λ i. length (client_at p (e i)).variables in
    omega (arith, same)
before_more p k (suc c) =
    let e : suc k + c ≡ k + suc c = omega arith in
    let same : length (client_at p (suc k + c)).variables ≡ length (client_at p (k + suc c)).variables = λ i. length (client_at p (e i)).variables in
    omega (arith, before_more p (suc k) c, same)

-- as many of each client's variables as its text names are there
abbrev AreLong : ProgramShape → ℕ → List Locals → Type 0
AreLong p k ls = (i : ℕ) → i < length ls → length (take (length (client_at p (k + i)).variables) (get_or ls i zeros)) ≡ length (client_at p (k + i)).variables

first_long : (p : ProgramShape) (k : ℕ) (l : Locals) (ls : List Locals) → AreLong p k (l ∷ ls) → length (take (length (client_at p k).variables) l) ≡ length (client_at p k).variables
first_long p k l ls h = subst (λ j. length (take (length (client_at p j).variables) l) ≡ length (client_at p j).variables) (omega arith) (h 0 (omega arith))

rest_long : (p : ProgramShape) (k : ℕ) (l : Locals) (ls : List Locals) → AreLong p k (l ∷ ls) → AreLong p (suc k) ls
rest_long p k l ls h i less =
    subst (λ j. length (take (length (client_at p j).variables) (get_or ls i zeros)) ≡ length (client_at p j).variables) (omega arith) (h (suc i) (omega (arith, less)))

named_long : (p : ProgramShape) (k : ℕ) (ls : List Locals) → AreLong p k ls → length (named_from p k ls) ≡ named_before p k (length ls)
named_long p k [] h = refl
named_long p k (l ∷ ls) h =
    let both = length-append (take (length (client_at p k).variables) l) (named_from p (suc k) ls) in
    omega (arith, first_long p k l ls h, named_long p (suc k) ls (rest_long p k l ls h), both)

-- one client's variables are others
named_over : (p : ProgramShape) (k : ℕ) (ls : List Locals) (c j : ℕ) (v : Locals) → AreLong p k ls → c < length ls → j ≡ k + c
    → length (take (length (client_at p j).variables) v) ≡ length (client_at p j).variables
    → overwritten (named_from p k ls) (named_before p k c) (take (length (client_at p j).variables) v) ≡ named_from p k (slice_set ls c v)
named_over p k [] c j v long less is here = absurd (omega (arith, less))
named_over p k (l ∷ ls) zero j v long less is here =
    let same : j ≡ k = (let e = is in omega (arith, e)) in
    subst (λ m. overwritten (named_from p k (l ∷ ls)) 0 (take (length (client_at p m).variables) v) ≡ named_from p k (v ∷ ls)) (sym same)
    (over_whole (take (length (client_at p k).variables) l) (named_from p (suc k) ls) (take (length (client_at p k).variables) v)
    ((first_long p k l ls long) ∙ sym (subst (λ m. length (take (length (client_at p m).variables) v) ≡ length (client_at p m).variables) same here)))
named_over p k (l ∷ ls) (suc c) j v long less is here =
    let n = length (client_at p k).variables in
    let first = first_long p k l ls long in
    (λ i. overwritten (take n l ++ named_from p (suc k) ls) (sym first i + named_before p (suc k) c) (take (length (client_at p j).variables) v))
    ∙ (over_behind (take n l) (named_from p (suc k) ls) (named_before p (suc k) c) (take (length (client_at p j).variables) v)
    ∙ ap (λ ys. take n l ++ ys) (named_over p (suc k) ls c j v (rest_long p k l ls long) (omega (arith, less)) (omega (arith, is)) here))

module _ (p : ProgramShape) (front : List Ticket) (sound : IsSound p) (s : StandingShape) (is : IsStanding p front s) where
  abbrev stem : ℕ
  stem = named_before p 0 (length p.clients)

  long : AreLong p 0 s.locals
  long i less =
      let all = (named p front sound s is i less).long in
      simp length-take (omega (arith, few_variables p sound (0 + i) (let n = is.locals in omega (arith, less, n)), all))

  locals_long : length (named_from p 0 s.locals) ≡ named_before p 0 (length p.clients)
  locals_long = named_long p 0 s.locals long ∙ ap (named_before p 0) is.locals

  -- a row has as many numbers as variables, and more by the objects
  pub stem_within : stem ≤ length (row_of p s).numbers
  stem_within =
      let n = locals_long in omega (arith, length-append (named_from p 0 s.locals) (flat_map state_row s.states), n)

  stem_is : take stem (row_of p s).numbers ≡ named_from p 0 s.locals
  stem_is =
      (λ i. take (sym locals_long i) (named_from p 0 s.locals ++ flat_map state_row s.states))
      ∙ take-append_seam (named_from p 0 s.locals) (flat_map state_row s.states)

  -- one count is another
  pub next_counts : (c count : ℕ) → c < length p.clients → slice_set (padded s.begun) c count ≡ padded (slice_set s.begun c count)
  next_counts c count client =
      set-append_left s.begun (drop (length s.begun) (replicate most_clients 0)) c count (let n = is.begun in omega (arith, client, n))
      ∙ ap (λ n. slice_set s.begun c count ++ drop n (replicate most_clients 0)) (sym (length-set s.begun c count))

  -- one client's variables are others, and the objects
  pub next_numbers : (c : ℕ) (values : Locals) (states : List State) → c < length p.clients → length values ≡ most_variables
      → overwritten (take stem (row_of p s).numbers) (named_before p 0 c) (take (length (client_at p c).variables) values) ++ flat_map state_row states
      ≡ (row_of p (standing_with_block s c values states)).numbers
  next_numbers c values states client all =
      let few = few_variables p sound c client in
      let here : length (take (length (client_at p c).variables) values) ≡ length (client_at p c).variables = simp length-take (omega (arith, few, all)) in
      ap (λ xs. xs ++ flat_map state_row states)
      ((λ i. overwritten (stem_is i) (named_before p 0 c) (take (length (client_at p c).variables) values))
      ∙ named_over p 0 s.locals c c values long (let n = is.locals in omega (arith, client, n)) (omega arith) here)
