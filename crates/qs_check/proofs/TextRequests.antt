-- The places of a block's statements are fine exactly where each request is on a listed object with an operation that
-- it has, each repeat's count is in range, and each leave stands in a repeat. The proof that well-formed scripts are
-- those without a fault needs both directions. Each goes by induction on the statements, and uses that no two objects
-- have the same name.
use Rattle.std.proofs.Common.{◌≡◌, ℕ, zero, suc, ◌+◌, ◌<◌, Bool, true, false, not, ◌||◌, cond, List, [], ◌∷◌, ◌++◌, length, get_or, slice_index_or, Option, Some, None, refl, ap, sym, ◌∙◌, arith, pos, Decides}
use Rattle.std.proofs.lemmas.Bool.Decides.{nat_tests}
use Rattle.std.proofs.lemmas.Cmp.{nat_list_eq_equiv}
use Rattle.std.proofs.lemmas.List.{length-map}
use Rattle.std.proofs.lemmas.Map.Made.{is_member-Decides}
use Rattle.std.specs.Cmp.Lexicographic.{same_text}
use Rattle.std.specs.List.{AllByRecursion, IsDistinct, position_or_len}
use Rattle.std.proofs.lemmas.Bool.{or_right}
use Rattle.qs_objects.specs.declared.Op.{Op}
use Rattle.qs_objects.specs.declared.object.Kind.TheVariants.{Account}
use Rattle.qs_objects.specs.audit.Operations.{arity}
use Rattle.qs_objects.proofs.Elements.{AllByRecursion-get_or}
use Rattle.qs_script.specs.declared.tree.tree.Atom.{Atom}
use Rattle.qs_script.specs.declared.tree.tree.Atom.TheVariants.{Variable, Number}
use Rattle.qs_script.specs.declared.tree.tree.Expr.{Expr}
use Rattle.qs_script.specs.declared.tree.tree.Expr.TheVariants.{Plain, Binary}
use Rattle.qs_script.specs.declared.tree.tree.Test.{Test}
use Rattle.qs_script.specs.declared.tree.tree.Call.{Call}
use Rattle.qs_script.specs.audit.tree.Tree as tree
use Rattle.qs_program.specs.declared.program.Declared.{Declared}
use Rattle.qs_program.specs.audit.Numbering.{Name, same_name, is_among, found_at}
use Rattle.qs_check.specs.audit.fault_places.Operators.{op_of}
use Rattle.qs_check.specs.audit.fault_places.Places.{TextPlace, places, atom_places, atoms_places, expr_places, test_places, request_places, call_places, op_at, is_known, takes}
use Rattle.qs_check.specs.WellFormed.{IsRequest, AreStatements}
use Rattle.qs_program.proofs.Found.{name_at, found_is, found_within, same_name-refl}
use Rattle.qs_check.proofs.fault_places.Inner.{all_both}
use Rattle.qs_check.proofs.fault_places.FinePlaces.{IsFine}
use Rattle.qs_check.proofs.resolution.Scopes.{names, kinds}

pub same_decides : (a b : Name) → Decides (same_name a b) (a ≡ b)
same_decides a b = (λ e. same_text a b (sym e), λ e. ap (same_name a) (sym e) ∙ same_name-refl a)

-- what holds of the elements of two lists, one after the other
module _ {A : Type 0} (P : A → Type 0) where
  pub all_first : (xs ys : List A) → AllByRecursion P (xs ++ ys) → AllByRecursion P xs
  all_first [] ys h = tt
  all_first (x ∷ xs) ys h = (h.0, all_first xs ys h.1)

  pub all_later : (xs ys : List A) → AllByRecursion P (xs ++ ys) → AllByRecursion P ys
  all_later [] ys h = h
  all_later (x ∷ xs) ys h = all_later xs ys h.1

-- a name of a list is among its names
pub among_at : (xs : List Name) (k : ℕ) → k < length xs → is_among xs (get_or xs k []) ≡ true
among_at [] k within = absurd (omega arith)
among_at (x ∷ xs) zero within = ap (λ b. b || is_among xs x) (same_name-refl x)
among_at (x ∷ xs) (suc k) within = or_right (same_name (get_or xs k []) x) (is_among xs (get_or xs k [])) (among_at xs k (omega arith))

pub place_later : (b : Bool) (i j : ℕ) → b ≡ false → i ≡ j → cond (not b) (1 + i) 0 ≡ suc j
place_later true i j e f = cc
place_later false i j e f = omega (arith, f)

pub place_here : (b : Bool) (i : ℕ) → b ≡ true → cond (not b) (1 + i) 0 ≡ 0
place_here true i e = refl
place_here false i e = cc

-- where no two names are the same, a name's number is its place
only_place : (xs : List Name) (k : ℕ) → IsDistinct same_name xs → k < length xs → position_or_len (same_name (get_or xs k [])) xs ≡ k
unfolding IsDistinct
only_place [] k d within = absurd (omega arith)
only_place (x ∷ xs) zero d within = place_here (same_name x x) (position_or_len (same_name x) xs) (same_name-refl x)
only_place (x ∷ xs) (suc k) d within =
    let inside : k < length xs = omega arith in
    let y = get_or xs k [] in
    let other : same_name x y ≡ false = AllByRecursion-get_or (λ z. same_name x z ≡ false) xs k [] d.0 inside in
    place_later (same_name y x) (position_or_len (same_name y) xs) k (nat_list_eq_equiv.symm y x ∙ other) (only_place xs k d.1 inside)

pub found_only : (xs : List Name) (k : ℕ) → IsDistinct same_name xs → k < length xs → found_at xs (get_or xs k []) ≡ k
found_only xs k d within = found_is (same_name (get_or xs k [])) xs (among_at xs k within) ∙ only_place xs k d within

-- an object by its number
pub at_number : (D : List Declared) (k : ℕ) (d : Declared) → k < length D → slice_index_or D k d ≡ record { name = slice_index_or (names D) k []; kind = slice_index_or (kinds D) k (Account (pos 0)) }
at_number [] k d within = absurd (omega arith)
at_number (o ∷ D) zero d within = refl
at_number (o ∷ D) (suc k) d within = at_number D k d (omega arith)

takes_some : (found : Option Op) (n : ℕ) → takes found n ≡ true → (op : Op) × (found ≡ Some op) × (n ≡ arity op)
takes_some None n h = absurd (cc)
takes_some (Some op) n h = let e : arity op ≡ n = grind (arith, nat_tests) in (op, refl, sym e)

some_takes : (op : Op) (n : ℕ) → n ≡ arity op → takes (Some op) n ≡ true
some_takes op n h = grind (arith, nat_tests)

module _ (D : List Declared) (R : List Name) where
  abbrev pub AllFine : List TextPlace → Type 0
  AllFine ps = AllByRecursion (IsFine (names D) (kinds D) R) ps

  request_from : (asks : Bool) (c : Call) → (is_among (names D) c.object ≡ true) → (is_among R c.object ≡ true) → takes (op_at (names D) (kinds D) asks c.object c.op) (length c.args) ≡ true → IsRequest D R asks c
  request_from asks c known reserved fit =
      let k = found_at (names D) c.object in
      let kind = slice_index_or (kinds D) k (Account (pos 0)) in
      let within : k < length D = omega (arith, found_within (names D) c.object known, length-map D (λ (o : Declared). o.name)) in
      let op = takes_some (op_at (names D) (kinds D) asks c.object c.op) (length c.args) fit in
      let here : Declared = record { name = c.object; kind = kind } in
      record {
        reserves = (is_member-Decides same_decides R c.object).0 reserved;
        kind = kind;
        declares = (k, within, at_number D k here within ∙ (λ i. record { name = sym (name_at (names D) c.object known) i; kind = kind }));
        op = op.0;
        has = op.1;
        arity = op.2;
      }

  request_to : (asks : Bool) (c : Call) → IsDistinct same_name (names D) → IsRequest D R asks c → AllFine (request_places asks c.object c.op (length c.args))
  request_to asks c distinct h =
      let k = h.declares.0 in
      let here : Declared = record { name = c.object; kind = h.kind } in
      let it = sym (at_number D k here h.declares.1) ∙ h.declares.2 in
      let name_is : get_or (names D) k [] ≡ c.object = ap (λ (o : Declared). o.name) it in
      let kind_is : slice_index_or (kinds D) k (Account (pos 0)) ≡ h.kind = ap (λ (o : Declared). o.kind) it in
      let within : k < length (names D) = omega (arith, h.declares.1, length-map D (λ (o : Declared). o.name)) in
      let number_is : found_at (names D) c.object ≡ k = ap (found_at (names D)) (sym name_is) ∙ found_only (names D) k distinct within in
      let op_is : op_at (names D) (kinds D) asks c.object c.op ≡ Some h.op =
      ap (λ i. op_of asks (slice_index_or (kinds D) i (Account (pos 0))) c.op) number_is ∙ ap (λ kind. op_of asks kind c.op) kind_is ∙ h.has in
      let known : is_among (names D) c.object ≡ true = ap (is_among (names D)) (sym name_is) ∙ among_at (names D) k within in (
        (known, (is_member-Decides same_decides R c.object).1 h.reserves),
        (ap is_known op_is, (ap (λ found. takes found (length c.args)) op_is ∙ some_takes h.op (length c.args) h.arity, tt)),
      )

  fine_atom : (a : Atom) → AllFine (atom_places a)
  fine_atom (Variable x) = (tt, tt)
  fine_atom (Number n) = tt

  both : (ps qs : List TextPlace) → AllFine ps → AllFine qs → AllFine (ps ++ qs)
  both ps qs h k = all_both (IsFine (names D) (kinds D) R) ps qs h k

  first : (ps qs : List TextPlace) → AllFine (ps ++ qs) → AllFine ps
  first ps qs h = all_first (IsFine (names D) (kinds D) R) ps qs h

  later : (ps qs : List TextPlace) → AllFine (ps ++ qs) → AllFine qs
  later ps qs h = all_later (IsFine (names D) (kinds D) R) ps qs h

  fine_atoms : (xs : List Atom) → AllFine (atoms_places xs)
  fine_atoms [] = tt
  fine_atoms (a ∷ xs) = both (atom_places a) (atoms_places xs) (fine_atom a) (fine_atoms xs)

  fine_expr : (e : Expr) → AllFine (expr_places e)
  fine_expr (Plain a) = fine_atom a
  fine_expr (Binary a op b) = both (atom_places a) (atom_places b) (fine_atom a) (fine_atom b)

  fine_test : (t : Test) → AllFine (test_places t)
  fine_test t = both (atom_places t.left) (atom_places t.right) (fine_atom t.left) (fine_atom t.right)

  call_from : (asks : Bool) (c : Call) → AllFine (call_places asks c) → IsRequest D R asks c
  call_from asks c (t, (o, (n, more))) = request_from asks c t.0 t.1 n

  call_to : (asks : Bool) (c : Call) → IsDistinct same_name (names D) → IsRequest D R asks c → AllFine (call_places asks c)
  call_to asks c distinct h = both (request_places asks c.object c.op (length c.args)) (atoms_places c.args) (request_to asks c distinct h) (fine_atoms c.args)

  pub statements_from : (inside : Bool) (body : tree.Stmts) → AllFine (places inside body) → AreStatements D R inside body
  statements_from inside tree.end h = tt
  statements_from inside (tree.command c rest) h =
      (call_from false c (first (call_places false c) (places inside rest) h), statements_from inside rest (later (call_places false c) (places inside rest) h))
  statements_from inside (tree.query x c rest) (v, h) =
      (call_from true c (first (call_places true c) (places inside rest) h), statements_from inside rest (later (call_places true c) (places inside rest) h))
  statements_from inside (tree.assign x e rest) (v, h) = statements_from inside rest (later (expr_places e) (places inside rest) h)
  statements_from inside (tree.choose t one rest) h =
      let k = later (test_places t) (places inside one ++ places inside rest) h in
      (statements_from inside one (first (places inside one) (places inside rest) k), statements_from inside rest (later (places inside one) (places inside rest) k))
  statements_from inside (tree.choose_else t one other rest) h =
      let k = later (test_places t) (places inside one ++ (places inside other ++ places inside rest)) h in
      let m = later (places inside one) (places inside other ++ places inside rest) k in (
        statements_from inside one (first (places inside one) (places inside other ++ places inside rest) k),
        statements_from inside other (first (places inside other) (places inside rest) m),
        statements_from inside rest (later (places inside other) (places inside rest) m),
      )
  statements_from inside (tree.again n body rest) (r, h) =
      (r.1, statements_from true body (first (places true body) (places inside rest) h), statements_from inside rest (later (places true body) (places inside rest) h))
  statements_from inside (tree.leave rest) (i, h) = (i, statements_from inside rest h)

  module _ (distinct : IsDistinct same_name (names D)) where
    pub statements_to : (inside : Bool) (body : tree.Stmts) → AreStatements D R inside body → AllFine (places inside body)
    statements_to inside tree.end h = tt
    statements_to inside (tree.command c rest) (r, h) = both (call_places false c) (places inside rest) (call_to false c distinct r) (statements_to inside rest h)
    statements_to inside (tree.query x c rest) (r, h) = (tt, both (call_places true c) (places inside rest) (call_to true c distinct r) (statements_to inside rest h))
    statements_to inside (tree.assign x e rest) h = (tt, both (expr_places e) (places inside rest) (fine_expr e) (statements_to inside rest h))
    statements_to inside (tree.choose t one rest) (k, h) =
        both (test_places t) (places inside one ++ places inside rest) (fine_test t)
        (both (places inside one) (places inside rest) (statements_to inside one k) (statements_to inside rest h))
    statements_to inside (tree.choose_else t one other rest) (k, m, h) =
        both (test_places t) (places inside one ++ (places inside other ++ places inside rest)) (fine_test t)
        (both (places inside one) (places inside other ++ places inside rest) (statements_to inside one k)
        (both (places inside other) (places inside rest) (statements_to inside other m) (statements_to inside rest h)))
    statements_to inside (tree.again n body rest) (r, k, h) =
        ((omega arith, r), both (places true body) (places inside rest) (statements_to true body k) (statements_to inside rest h))
    statements_to inside (tree.leave rest) (i, h) = (i, statements_to inside rest h)
