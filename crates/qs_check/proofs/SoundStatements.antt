-- In a script with no fault each request names an object of the block's list, with an operation of that object's kind
-- and the right number of arguments, so the statements by number are sound. The soundness of blocks and of whole
-- programs stands on `sound_body`. It goes by induction on the statements, and reads each fact off the place that was
-- passed without a fault.
use Rattle.std.proofs.Common.{◌≡◌, ℕ, suc, ◌≤◌, rules, Bool, true, false, List, [], ◌∷◌, ◌++◌, length, map, slice_index_or, Option, Some, None, refl, ap, sym, ◌∙◌, subst, arith, Ok, pos, if◌then◌else◌}
use Rattle.std.proofs.lemmas.Bool.Decides.{nat_tests}
use Rattle.std.proofs.lemmas.List.{length-map}
use Rattle.std.specs.List.{AllByRecursion}
use Rattle.qs_objects.specs.declared.Op.{Op}
use Rattle.qs_objects.specs.declared.object.Kind.{Kind}
use Rattle.qs_objects.specs.declared.object.Kind.TheVariants.{Account}
use Rattle.qs_objects.specs.audit.Operations.{is_query, arity, operations_of, word}
use Rattle.qs_objects.specs.Operations.{fits}
use Rattle.qs_script.specs.declared.tree.tree.Atom as text
use Rattle.qs_script.specs.declared.tree.tree.Atom.TheVariants.{Variable, Number}
use Rattle.qs_script.specs.declared.tree.tree.Expr.TheVariants.{Plain, Binary}
use Rattle.qs_script.specs.declared.tree.tree.Expr as text_expr
use Rattle.qs_script.specs.declared.tree.tree.Test as text_test
use Rattle.qs_script.specs.declared.tree.tree.Call as text_call
use Rattle.qs_script.specs.audit.tree.Tree as tree
use Rattle.qs_program.specs.declared.program.Declared.{Declared}
use Rattle.qs_program.specs.audit.Numbering.{Name, same_name, is_among, found_at}
use Rattle.qs_check.specs.audit.fault_places.Operators.{called, is_meant, op_of, op_or_refused}
use Rattle.qs_check.specs.audit.fault_places.Places.{Scope, TextPlace, number, target, operation, arguments, variable, leaves, scope_or_fault, places, atoms_places, expr_places, test_places, call_places, op_at, is_known, takes}
use Rattle.qs_program.specs.audit.Program.{no_object}
use Rattle.qs_check.specs.audit.resolution.Resolve.{atom_of, expr_of, test_of, call_of, body_of}
use Rattle.qs_program.specs.audit.Sound.{is_in}
use Rattle.qs_program.specs.Sound.{IsSoundAtom, IsSoundExpr, IsSoundTest, IsSoundCall, IsSoundBody}
use Rattle.qs_program.proofs.Found.{found_small}
use Rattle.qs_program.specs.audit.Limits.{most_variables}
use Rattle.qs_check.proofs.fault_places.Inner.{Inner, kept, parted, inner_body, inner_call, inner_expr, inner_test}
use Rattle.qs_check.proofs.resolution.Scopes.{kinds, names}
use Rattle.qs_check.proofs.fault_places.Steps.{next_scope, split}

-- an operation that is known is one of the kind, and a query where one is asked
abbrev Suits : Bool → Kind → Op → Type 0
Suits asks kind op = (fits op kind ≡ true) × (is_query op ≡ asks)

by_tests : (P : Op → Type 0) (m s : Bool) (op : Op) (others : Option Op)
    → (m ≡ true → P op) → (is_known others ≡ true → P (op_or_refused others))
    → is_known (if m then if s then Some op else others else others) ≡ true
    → P (op_or_refused (if m then if s then Some op else others else others))
by_tests P true true op others here later h = here refl
by_tests P _ _ op others here later h = later h

asked : (asks : Bool) (op : Op) → is_meant asks op ≡ true → is_query op ≡ asks
asked = search rules

all_fit : (kind : Kind) → AllByRecursion (λ op. fits op kind ≡ true) (operations_of kind)
all_fit = search rules

suits_in : (asks : Bool) (kind : Kind) (w : Name) (ops : List Op) → AllByRecursion (λ op. fits op kind ≡ true) ops
    → is_known (called asks w ops) ≡ true → Suits asks kind (op_or_refused (called asks w ops))
suits_in asks kind w [] fit h = absurd (cc)
suits_in asks kind w (op ∷ ops) fit h =
    by_tests (Suits asks kind) (is_meant asks op) (same_name w (word op)) op (called asks w ops)
    (λ m. (fit.0, asked asks op m)) (suits_in asks kind w ops fit.1) h

suits : (asks : Bool) (kind : Kind) (w : Name) → is_known (op_of asks kind w) ≡ true → Suits asks kind (op_or_refused (op_of asks kind w))
suits asks kind w = suits_in asks kind w (operations_of kind) (all_fit kind)

taken : (found : Option Op) (n : ℕ) → takes found n ≡ true → n ≡ arity (op_or_refused found)
taken None n h = absurd (cc)
taken (Some op) n h = let e : arity op ≡ n = grind (arith, nat_tests) in sym e

pub kind_at : (D : List Declared) (i : ℕ) → (slice_index_or D i no_object).kind ≡ slice_index_or (map (λ (o : Declared). o.kind) D) i (Account (pos 0))
kind_at (o ∷ D) (suc i) = kind_at D i
kind_at _ _ = refl

module _ (D : List Declared) where
  -- the objects so far have the same kinds at the end
  abbrev pub Known : List Name → List Kind → Type 0
  Known os ks =
      (o : Name) → is_among os o ≡ true
      → (is_among (names D) o ≡ true) × (slice_index_or (kinds D) (found_at (names D) o) (Account (pos 0)) ≡ slice_index_or ks (found_at os o) (Account (pos 0)))

  module _ (R : List ℕ) (V : List Name) (few : length V ≤ most_variables) where
    abbrev pub Here : Scope → Type 0
    Here s = Known s.objects s.kinds × ((o : Name) → is_among s.reserved o ≡ true → is_in R (found_at (names D) o) ≡ true)

    here_after : (s u : Scope) (ps : List TextPlace) → Inner ps → scope_or_fault s ps ≡ Ok u → Here s → Here u
    here_after s u ps i h here = let P : Scope → Type 0 = λ t. Here t in subst P (sym (kept s u ps i h)) here

    sound_atom : (a : text.Atom) → IsSoundAtom (atom_of V a)
    sound_atom (Variable x) = found_small V x few
    sound_atom (Number n) = tt

    sound_atoms : (xs : List text.Atom) → AllByRecursion IsSoundAtom (map (atom_of V) xs)
    sound_atoms [] = tt
    sound_atoms (a ∷ xs) = (sound_atom a, sound_atoms xs)

    sound_expr : (e : text_expr.Expr) → IsSoundExpr (expr_of V e)
    sound_expr (Plain a) = sound_atom a
    sound_expr (Binary a op b) = (sound_atom a, sound_atom b)

    sound_test : (t : text_test.Test) → IsSoundTest (test_of V t)
    sound_test t = (sound_atom t.left, sound_atom t.right)

    sound_call : (asks : Bool) (c : text_call.Call) (s t : Scope) → Here s → scope_or_fault s (call_places asks c) ≡ Ok t → IsSoundCall D R asks (call_of (names D) (kinds D) V asks c)
    sound_call asks c s t here h =
        let o = c.object in
        let n = length c.args in
        let a = split s t (target o) (operation asks o c.op ∷ arguments asks o c.op n ∷ atoms_places c.args) h in
        let b = split s t (operation asks o c.op) (arguments asks o c.op n ∷ atoms_places c.args) a.1 in
        let known = here.0 o a.0.0 in
        let op_is : op_at (names D) (kinds D) asks o c.op ≡ op_at s.objects s.kinds asks o c.op = ap (λ k. op_of asks k c.op) known.1 in
        let is_op : is_known (op_at (names D) (kinds D) asks o c.op) ≡ true = ap is_known op_is ∙ b.0 in
        let fit : takes (op_at (names D) (kinds D) asks o c.op) n ≡ true = ap (λ x. takes x n) op_is ∙ (split s t (arguments asks o c.op n) (atoms_places c.args) b.1).0 in
        let good = suits asks (slice_index_or (kinds D) (found_at (names D) o) (Account (pos 0))) c.op is_op in
        record {
          reserves = here.1 o a.0.1;
          kind = ap (fits (op_or_refused (op_at (names D) (kinds D) asks o c.op))) (kind_at D (found_at (names D) o)) ∙ good.0;
          query = good.1;
          arity = length-map c.args (atom_of V) ∙ taken (op_at (names D) (kinds D) asks o c.op) n fit;
          args = sound_atoms c.args;
        }

    pub sound_body : (body : tree.Stmts) (inside : Bool) (s t : Scope) → Here s → scope_or_fault s (places inside body) ≡ Ok t → IsSoundBody D R (body_of (names D) (kinds D) V body)
    sound_body tree.end inside s t here h = tt
    sound_body (tree.command c rest) inside s t here h =
        let w = parted s t (call_places false c) (places inside rest) h in
        (sound_call false c s w.0 here w.1, sound_body rest inside w.0 t (here_after s w.0 (call_places false c) (inner_call false c) w.1 here) w.2)
    sound_body (tree.query x c rest) inside s t here h =
        let w = parted s t (variable x ∷ call_places true c) (places inside rest) h in
        let v = split s w.0 (variable x) (call_places true c) w.1 in
        (found_small V x few, sound_call true c (next_scope s (variable x)) w.0 here v.1, sound_body rest inside w.0 t (here_after s w.0 (variable x ∷ call_places true c) (tt, inner_call true c) w.1 here) w.2)
    sound_body (tree.assign x e rest) inside s t here h =
        let w = parted s t (variable x ∷ expr_places e) (places inside rest) h in
        (found_small V x few, sound_expr e, sound_body rest inside w.0 t (here_after s w.0 (variable x ∷ expr_places e) (tt, inner_expr e) w.1 here) w.2)
    sound_body (tree.choose q first rest) inside s t here h =
        let a = parted s t (test_places q) (places inside first ++ places inside rest) h in
        let b = parted a.0 t (places inside first) (places inside rest) a.2 in
        let here_a = here_after s a.0 (test_places q) (inner_test q) a.1 here in
        let here_b = here_after a.0 b.0 (places inside first) (inner_body inside first) b.1 here_a in
        (sound_test q, sound_body first inside a.0 b.0 here_a b.1, tt, sound_body rest inside b.0 t here_b b.2)
    sound_body (tree.choose_else q first other rest) inside s t here h =
        let a = parted s t (test_places q) (places inside first ++ (places inside other ++ places inside rest)) h in
        let b = parted a.0 t (places inside first) (places inside other ++ places inside rest) a.2 in
        let d = parted b.0 t (places inside other) (places inside rest) b.2 in
        let here_a = here_after s a.0 (test_places q) (inner_test q) a.1 here in
        let here_b = here_after a.0 b.0 (places inside first) (inner_body inside first) b.1 here_a in
        let here_d = here_after b.0 d.0 (places inside other) (inner_body inside other) d.1 here_b in
        (sound_test q, sound_body first inside a.0 b.0 here_a b.1, sound_body other inside b.0 d.0 here_b d.1, sound_body rest inside d.0 t here_d d.2)
    sound_body (tree.again n body rest) inside s t here h =
        let w = parted s t (number 0 1000 n ∷ places true body) (places inside rest) h in
        let v = split s w.0 (number 0 1000 n) (places true body) w.1 in
        (v.0.1, sound_body body true s w.0 here v.1, sound_body rest inside w.0 t (here_after s w.0 (number 0 1000 n ∷ places true body) (tt, inner_body true body) w.1 here) w.2)
    sound_body (tree.leave rest) inside s t here h = sound_body rest inside s t here (split s t (leaves inside) (places inside rest) h).1
