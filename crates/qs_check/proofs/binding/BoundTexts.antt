-- A block over formals that is sound and formed stays so once each formal stands for its object: the objects are
-- declared and of their formals' kinds, and each is reserved once. The soundness of a client of a template stands on
-- it. It goes by induction on the statements, and on the list for what comes first in it.
use Rattle.std.proofs.Common.{◌≡◌, ℕ, ◌<◌, max, Bool, true, false, not, ◌||◌, ◌==◌, List, [], ◌∷◌, length, map, filter, slice_index_or, refl, ap, sym, ◌∙◌, subst, arith, if◌then◌else◌, eqb-true}
use Rattle.std.specs.List.{AllByRecursion, IsDistinct}
use Rattle.std.proofs.lemmas.Bool.{not_from_false, or_right}
use Rattle.std.proofs.lemmas.List.{get_or_default}
use Rattle.qs_objects.specs.declared.Op.{Op}
use Rattle.qs_objects.specs.declared.object.Kind.{Kind}
use Rattle.qs_objects.specs.declared.object.Kind.TheVariants.{Account, Buffer, Grid}
use Rattle.qs_objects.specs.Operations.{fits}
use Rattle.qs_objects.proofs.Elements.{AllByRecursion-get_or}
use Rattle.qs_program.specs.declared.code.Call.{Call}
use Rattle.qs_program.specs.declared.program.Declared.{Declared}
use Rattle.qs_program.specs.audit.Binding.{bound, bound_call, bound_statements, bound_block, first_of_each}
use Rattle.qs_program.specs.audit.Kinds.{same_kind}
use Rattle.qs_program.specs.audit.Program.{BlockShape, no_object}
use Rattle.qs_program.specs.audit.Sound.{is_in}
use Rattle.qs_program.specs.Sound.{levels_of, IsSoundCall, IsSoundBody, IsSoundBlock, AreVariablesBelow, AreLeavesInside, IsFormedBlock}
use Rattle.qs_program.specs.audit.Statements.{Statements, end, command, query, assign, choose, again, leave}
use Rattle.qs_program.proofs.Found.{apart, same, false_not_true}

-- ---- the numbers that come first

all_if : (P : ℕ → Type 0) (b : Bool) (x : ℕ) (xs : List ℕ) → P x → AllByRecursion P xs → AllByRecursion P (if b then x ∷ xs else xs)
all_if P true x xs h k = (h, k)
all_if P false x xs h k = k

all_kept : (P : ℕ → Type 0) (p : ℕ → Bool) (xs : List ℕ) → AllByRecursion P xs → AllByRecursion P (filter p xs)
all_kept P p [] h = tt
all_kept P p (x ∷ xs) h = all_if P (p x) x (filter p xs) h.0 (all_kept P p xs h.1)

distinct_if : (b : Bool) (x : ℕ) (xs : List ℕ) → AllByRecursion (λ y. (x == y) ≡ false) xs → IsDistinct ◌==◌ xs → IsDistinct ◌==◌ (if b then x ∷ xs else xs)
unfolding IsDistinct
distinct_if true x xs h k = (h, k)
distinct_if false x xs h k = k

distinct_kept : (p : ℕ → Bool) (xs : List ℕ) → IsDistinct ◌==◌ xs → IsDistinct ◌==◌ (filter p xs)
unfolding IsDistinct
distinct_kept p [] h = tt
distinct_kept p (x ∷ xs) h = distinct_if (p x) x (filter p xs) (all_kept (λ y. (x == y) ≡ false) p xs h.0) (distinct_kept p xs h.1)

turned : (x y : ℕ) → (y == x) ≡ false → (x == y) ≡ false
turned x y h = apart x y (λ e. false_not_true (y == x) (ap (λ z. z == x) (sym e) ∙ same x) h)

other_if : (x y : ℕ) (b : Bool) (rest : List ℕ) → (y == x) ≡ b → AllByRecursion (λ z. (x == z) ≡ false) rest → AllByRecursion (λ z. (x == z) ≡ false) (if not b then y ∷ rest else rest)
other_if x y true rest e h = h
other_if x y false rest e h = (turned x y e, h)

others : (x : ℕ) (ys : List ℕ) → AllByRecursion (λ z. (x == z) ≡ false) (filter (λ y. not (y == x)) ys)
others x [] = tt
others x (y ∷ ys) = other_if x y (y == x) (filter (λ z. not (z == x)) ys) refl (others x ys)

first_distinct : (xs : List ℕ) → IsDistinct ◌==◌ (first_of_each xs)
unfolding IsDistinct
first_distinct [] = tt
first_distinct (x ∷ xs) = (others x (first_of_each xs), distinct_kept (λ y. not (y == x)) (first_of_each xs) (first_distinct xs))

all_first : (P : ℕ → Type 0) (xs : List ℕ) → AllByRecursion P xs → AllByRecursion P (first_of_each xs)
all_first P [] h = tt
all_first P (x ∷ xs) h = (h.0, all_kept P (λ y. not (y == x)) (first_of_each xs) (all_first P xs h.1))

in_if : (p : ℕ → Bool) (x y : ℕ) (b c : Bool) (xs : List ℕ) → p x ≡ b → (x == y) ≡ c → p y ≡ true → (c ≡ true → x ≡ y) → (c || is_in xs y) ≡ true → (is_in xs y ≡ true → is_in (filter p xs) y ≡ true) → is_in (if b then x ∷ filter p xs else filter p xs) y ≡ true
in_if p x y true true xs e f k g h more = ap (λ d. d || is_in (filter p xs) y) f
in_if p x y true false xs e f k g h more = or_right (x == y) (is_in (filter p xs) y) (more h)
in_if p x y false true xs e f k g h more = absurd (false_not_true (p y) k (ap p (sym (g refl)) ∙ e))
in_if p x y false false xs e f k g h more = more h

in_kept : (p : ℕ → Bool) (xs : List ℕ) (y : ℕ) → p y ≡ true → is_in xs y ≡ true → is_in (filter p xs) y ≡ true
in_kept p [] y k h = h
in_kept p (x ∷ xs) y k h = in_if p x y (p x) (x == y) xs refl refl k (eqb-true x y) h (in_kept p xs y k)

in_first_by : (x y : ℕ) (b : Bool) (xs : List ℕ) → (x == y) ≡ b → (b || is_in xs y) ≡ true → (is_in xs y ≡ true → is_in (first_of_each xs) y ≡ true) → is_in (first_of_each (x ∷ xs)) y ≡ true
in_first_by x y true xs e h more = ap (λ d. d || is_in (filter (λ z. not (z == x)) (first_of_each xs)) y) e
in_first_by x y false xs e h more =
    or_right (x == y) (is_in (filter (λ z. not (z == x)) (first_of_each xs)) y)
    (in_kept (λ z. not (z == x)) (first_of_each xs) y (not_from_false (y == x) (turned y x e)) (more h))

in_first : (xs : List ℕ) (y : ℕ) → is_in xs y ≡ true → is_in (first_of_each xs) y ≡ true
in_first [] y h = h
in_first (x ∷ xs) y h = in_first_by x y (x == y) xs refl h (in_first xs y)

in_map_by : (f : ℕ → ℕ) (x y : ℕ) (b : Bool) (xs : List ℕ) → (x == y) ≡ b → (b || is_in xs y) ≡ true → (is_in xs y ≡ true → is_in (map f xs) (f y) ≡ true) → is_in (map f (x ∷ xs)) (f y) ≡ true
in_map_by f x y true xs e h more =
    ap (λ d. d || is_in (map f xs) (f y)) (ap (λ z. f z == f y) (eqb-true x y e) ∙ same (f y))
in_map_by f x y false xs e h more = or_right (f x == f y) (is_in (map f xs) (f y)) (more h)

in_map : (f : ℕ → ℕ) (xs : List ℕ) (y : ℕ) → is_in xs y ≡ true → is_in (map f xs) (f y) ≡ true
in_map f [] y h = cc
in_map f (x ∷ xs) y h = in_map_by f x y (x == y) xs refl h (in_map f xs y)

-- ---- sound blocks

fits_same : (op : Op) (one other : Kind) → same_kind one other ≡ true → fits op one ≡ fits op other
fits_same op (Account b) (Account c) h = refl
fits_same op (Buffer k) (Buffer l) h = refl
fits_same op (Grid n k) (Grid m l) h = refl
fits_same op _ _ h = cc

-- an element of a list has what holds of all
held_by : (P : ℕ → Type 0) (x y : ℕ) (b : Bool) (xs : List ℕ) → (x == y) ≡ b → (b || is_in xs y) ≡ true → P x → (is_in xs y ≡ true → P y) → P y
held_by P x y true xs e h here more = subst P (eqb-true x y e) here
held_by P x y false xs e h here more = more h

held : (P : ℕ → Type 0) (xs : List ℕ) (y : ℕ) → AllByRecursion P xs → is_in xs y ≡ true → P y
held P [] y all h = cc
held P (x ∷ xs) y all h = held_by P x y (x == y) xs refl h all.0 (held P xs y all.1)

module _ (B : List ℕ) (F D : List Declared) (each : length B ≡ length F) (inside : AllByRecursion (λ h. h < length D) B)
    (kinds : (i : ℕ) → i < length F → same_kind (slice_index_or F i no_object).kind (slice_index_or D (slice_index_or B i 0) no_object).kind ≡ true) where
  bound_is : (i : ℕ) → i < length F → bound B i ≡ slice_index_or B i 0
  bound_is i h = get_or_default B i i 0 (omega (arith, each))

  bound_within : (i : ℕ) → i < length F → bound B i < length D
  bound_within i h =
      let k : i < length B = omega (arith, each) in
      omega (arith, bound_is i h, AllByRecursion-get_or (λ o. o < length D) B i 0 inside k)

  list_within : (R : List ℕ) → AllByRecursion (λ i. i < length F) R → AllByRecursion (λ h. h < length D) (map (bound B) R)
  list_within [] h = tt
  list_within (i ∷ R) h = (bound_within i h.0, list_within R h.1)

  module _ (R : List ℕ) (reserved : AllByRecursion (λ i. i < length F) R) where
    sound_call : (asks : Bool) (c : Call) → IsSoundCall F R asks c → IsSoundCall D (first_of_each (map (bound B) R)) asks (bound_call B c)
    sound_call asks c h =
        let within : c.object < length F = held (λ i. i < length F) R c.object reserved h.reserves in
        let kind : same_kind (slice_index_or F c.object no_object).kind (slice_index_or D (bound B c.object) no_object).kind ≡ true =
        ap (λ o. same_kind (slice_index_or F c.object no_object).kind (slice_index_or D o no_object).kind) (bound_is c.object within) ∙ kinds c.object within in
        record {
          reserves = in_first (map (bound B) R) (bound B c.object) (in_map (bound B) R c.object h.reserves);
          kind = sym (fits_same c.op (slice_index_or F c.object no_object).kind (slice_index_or D (bound B c.object) no_object).kind kind) ∙ h.kind;
          query = h.query;
          arity = h.arity;
          args = h.args;
        }

    sound_body : (b : Statements) → IsSoundBody F R b → IsSoundBody D (first_of_each (map (bound B) R)) (bound_statements B b)
    sound_body end h = tt
    sound_body (command c rest) (r, h) = (sound_call false c r, sound_body rest h)
    sound_body (query x c rest) (v, r, h) = (v, sound_call true c r, sound_body rest h)
    sound_body (assign x e rest) (v, k, h) = (v, k, sound_body rest h)
    sound_body (choose t has_else first other rest) (v, k, m, h) = (v, sound_body first k, sound_body other m, sound_body rest h)
    sound_body (again n body rest) (v, k, h) = (v, sound_body body k, sound_body rest h)
    sound_body (leave rest) h = sound_body rest h

  pub sound_bound : (b : BlockShape) → IsSoundBlock F b → IsSoundBlock D (bound_block B b)
  sound_bound b h = record {
    reserved = all_first (λ o. o < length D) (map (bound B) b.reserved) (list_within b.reserved h.reserved);
    distinct = first_distinct (map (bound B) b.reserved);
    body = sound_body b.reserved h.reserved b.body h.body;
  }

  pub sound_bounds : (bs : List BlockShape) → AllByRecursion (IsSoundBlock F) bs → AllByRecursion (IsSoundBlock D) (map (bound_block B) bs)
  sound_bounds [] h = tt
  sound_bounds (b ∷ bs) h = (sound_bound b h.0, sound_bounds bs h.1)

-- ---- formed blocks

module _ (B : List ℕ) where
  below_bound : (n : ℕ) (b : Statements) → AreVariablesBelow n b → AreVariablesBelow n (bound_statements B b)
  below_bound n end h = tt
  below_bound n (command c rest) (r, h) = (r, below_bound n rest h)
  below_bound n (query x c rest) (v, r, h) = (v, r, below_bound n rest h)
  below_bound n (assign x e rest) (v, k, h) = (v, k, below_bound n rest h)
  below_bound n (choose t has_else first other rest) (v, w, k, m, h) = (v, w, below_bound n first k, below_bound n other m, below_bound n rest h)
  below_bound n (again k body rest) (m, h) = (below_bound n body m, below_bound n rest h)
  below_bound n (leave rest) h = below_bound n rest h

  leaves_bound : (inside : Bool) (b : Statements) → AreLeavesInside inside b → AreLeavesInside inside (bound_statements B b)
  leaves_bound inside end h = tt
  leaves_bound inside (command c rest) h = leaves_bound inside rest h
  leaves_bound inside (query x c rest) h = leaves_bound inside rest h
  leaves_bound inside (assign x e rest) h = leaves_bound inside rest h
  leaves_bound inside (choose t has_else first other rest) (k, m, h) = (leaves_bound inside first k, leaves_bound inside other m, leaves_bound inside rest h)
  leaves_bound inside (again n body rest) (k, h) = (leaves_bound true body k, leaves_bound inside rest h)
  leaves_bound inside (leave rest) (i, h) = (i, leaves_bound inside rest h)

  pub levels_bound : (b : Statements) → levels_of (bound_statements B b) ≡ levels_of b
  levels_bound end = refl
  levels_bound (command c rest) = ap (max 1) (levels_bound rest)
  levels_bound (query x c rest) = ap (max 1) (levels_bound rest)
  levels_bound (assign x e rest) = ap (max 1) (levels_bound rest)
  levels_bound (choose t has_else first other rest) = omega (arith, levels_bound first, levels_bound other, levels_bound rest)
  levels_bound (again n body rest) = omega (arith, levels_bound body, levels_bound rest)
  levels_bound (leave rest) = ap (max 1) (levels_bound rest)

  some_bound : (R : List ℕ) → 0 < length R → 0 < length (first_of_each (map (bound B) R))
  some_bound [] h = absurd (omega arith)
  some_bound (i ∷ R) h = omega arith

  pub formed_bounds : (n : ℕ) (bs : List BlockShape) → AllByRecursion (IsFormedBlock n) bs → AllByRecursion (IsFormedBlock n) (map (bound_block B) bs)
  formed_bounds n [] h = tt
  formed_bounds n (b ∷ bs) h = (
    record {
      some = some_bound b.reserved h.0.some;
      below = below_bound n b.body h.0.below;
      leaves = leaves_bound false b.body h.0.leaves;
      levels = omega (arith, levels_bound b.body, h.0.levels);
    },
    formed_bounds n bs h.1,
  )
