-- A table of rows takes a row that is not among its keys to the end, and tells whether it did. By this the search looks
-- at each configuration once. It goes by induction on the keys, with the test for equal rows.
use Rattle.std.proofs.Common.{◌≡◌, ℕ, zero, suc, Bool, true, false, not, ◌||◌, ◌&&◌, ◌==◌, ℤ, int_eq, List, [], ◌∷◌, sym, ap, ◌∙◌, subst, arith, inl, inr, true≢false, Some, slice_get}
use Rattle.qs_standings.proofs.Common.{and_parts, cases_Bool, Decides-int_eq, list_any, map-append}
use Rattle.std.specs.Cmp.Lexicographic.{bytes_decides, pointwise, pointwise_decides}
use Rattle.indexmap.specs.IndexSet.{insert_key}
use Rattle.qs_standings.specs.declared.rows.Row.{Row}
use Rattle.qs_standings.specs.Rows.{equal, rows_in, shape_of, IsInserted}
use Rattle.qs_standings.specs.Lists.{HasOne}
use Rattle.qs_standings.specs.Standings.{RowShape}

numbers : (x y : ℤ) → (int_eq x y ≡ true → x ≡ y) × (x ≡ y → int_eq x y ≡ true)
numbers x y = let d = Decides-int_eq x y in (d.0, d.1)

pub tells : (v w : RowShape) → equal v w ≡ true → v ≡ w
tells v w e =
    let parts = and_parts (pointwise ◌==◌ v.begun w.begun) (pointwise int_eq v.numbers w.numbers) e in
    let begun = (bytes_decides v.begun w.begun).0 parts.0 in
    let rest = (pointwise_decides numbers v.numbers w.numbers).0 parts.1 in
    λ i. record { begun = begun i; numbers = rest i }

holds : (v w : RowShape) → v ≡ w → equal v w ≡ true
holds v w e =
    (λ i. (bytes_decides v.begun w.begun).1 (ap (λ (r : RowShape). r.begun) e) i && pointwise int_eq v.numbers w.numbers)
    ∙ (pointwise_decides numbers v.numbers w.numbers).1 (ap (λ (r : RowShape). r.numbers) e)

pub among : (v : RowShape) (keys : List Row) → list_any (λ w. equal v (shape_of w)) keys ≡ true → HasOne (λ r. v ≡ r) (rows_in keys)
among v [] h = absurd (true≢false (sym h))
among v (w ∷ keys) h = elim (cases_Bool (equal v (shape_of w))) [ inl e ↦ inl (tells v (shape_of w) e) | inr e ↦ inr (among v keys (rw e at h)) ]

not_among : (v : RowShape) (keys : List Row) → list_any (λ w. equal v (shape_of w)) keys ≡ false → HasOne (λ r. v ≡ r) (rows_in keys) → ⊥
not_among v [] h has = has
not_among v (w ∷ keys) h (inl e) = true≢false (sym (ap (λ b. b || list_any (λ w. equal v (shape_of w)) keys) (holds v (shape_of w) e)) ∙ h)
not_among v (w ∷ keys) h (inr later) = not_among v keys (rest (equal v (shape_of w)) (list_any (λ w. equal v (shape_of w)) keys) h) later
  where
    rest : (a b : Bool) → (a || b) ≡ false → b ≡ false
    rest a b e = grind arith

-- the test for equal rows as the table has it
abbrev pub same : Row → Row → Bool
same v w = equal (shape_of v) (shape_of w)

pub inserted : (v : Row) (keys after : List Row) (new : Bool) → new ≡ not (list_any (same v) keys) → after ≡ insert_key same keys v → IsInserted (rows_in keys) (shape_of v) new (rows_in after)
inserted v keys after new is now = elim (cases_Bool (list_any (same v) keys)) [
  | inl e ↦ subst (λ n. IsInserted (rows_in keys) (shape_of v) n (rows_in after)) (sym (rw e at is)) (ap rows_in (rw e at now), among (shape_of v) keys e)
  | inr e ↦
      subst (λ n. IsInserted (rows_in keys) (shape_of v) n (rows_in after)) (sym (rw e at is))
      (ap rows_in (rw e at now) ∙ map-append shape_of keys (v ∷ []), not_among (shape_of v) keys e)
]

-- a row is among the keys if it is equal to the one at a place
pub among_at : (v : RowShape) (keys : List Row) (i : ℕ) (k : Row) → slice_get keys i ≡ Some k → equal v (shape_of k) ≡ true → HasOne (λ r. v ≡ r) (rows_in keys)
among_at v [] i k at e = absurd (cc)
among_at v (w ∷ keys) zero k at e = inl (tells v (shape_of w) ((λ j. equal v (shape_of (let is : w ≡ k = cc in is j))) ∙ e))
among_at v (w ∷ keys) (suc i) k at e = inr (among_at v keys i k at e)
