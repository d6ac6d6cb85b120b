-- The places in a block's body, such as a call's operation or a variable, change nothing of what the check knows but
-- the variables. The proofs that a script with no fault is sound need this to carry what they know of objects and lists
-- past a statement. It goes by induction on the statements, and `parted` cuts a walk at the scope between two lists of
-- places.
use Rattle.std.proofs.Common.{◌≡◌, Bool, true, false, List, [], ◌∷◌, ◌++◌, refl, ap, sym, ◌∙◌, Ok}
use Rattle.std.specs.List.{AllByRecursion}
use Rattle.qs_script.specs.declared.tree.tree.Atom.{Atom}
use Rattle.qs_script.specs.declared.tree.tree.Atom.TheVariants.{Variable, Number}
use Rattle.qs_script.specs.declared.tree.tree.Expr.{Expr}
use Rattle.qs_script.specs.declared.tree.tree.Expr.TheVariants.{Plain, Binary}
use Rattle.qs_script.specs.declared.tree.tree.Test.{Test}
use Rattle.qs_script.specs.declared.tree.tree.Call.{Call}
use Rattle.qs_script.specs.audit.tree.Tree.{Stmts, end, command, query, assign, choose, choose_else, again}
use Rattle.qs_script.specs.audit.tree.Tree as tree
use Rattle.qs_check.specs.audit.fault_places.Places.{Scope, TextPlace, object, client, separate, listed, template, number, target, operation, arguments, variable, leaves, scope_or_fault, places, atom_places, atoms_places, expr_places, test_places, call_places}
use Rattle.qs_check.proofs.fault_places.Steps.{with_names, next_scope, split, ok_same, then_at_ok}
use Rattle.qs_check.proofs.fault_places.Walks.{met-append}

abbrev pub IsInner : TextPlace → Type 0
IsInner (number low high n) = Unit {0}
IsInner (target o) = Unit {0}
IsInner (operation asks o op) = Unit {0}
IsInner (arguments asks o op n) = Unit {0}
IsInner (variable x) = Unit {0}
IsInner (leaves inside) = Unit {0}
IsInner _ = ⊥

abbrev pub Inner : List TextPlace → Type 0
Inner ps = AllByRecursion IsInner ps

-- what holds of the elements of two lists holds of the elements of both together
pub all_both : {A : Type 0} (P : A → Type 0) (xs ys : List A) → AllByRecursion P xs → AllByRecursion P ys → AllByRecursion P (xs ++ ys)
all_both P [] ys h k = k
all_both P (x ∷ xs) ys h k = (h.0, all_both P xs ys h.1 k)

inner_append : (ps qs : List TextPlace) → Inner ps → Inner qs → Inner (ps ++ qs)
inner_append ps qs h k = all_both IsInner ps qs h k

inner_atom : (a : Atom) → Inner (atom_places a)
inner_atom (Variable x) = (tt, tt)
inner_atom (Number n) = tt

inner_atoms : (xs : List Atom) → Inner (atoms_places xs)
inner_atoms [] = tt
inner_atoms (a ∷ rest) = inner_append (atom_places a) (atoms_places rest) (inner_atom a) (inner_atoms rest)

pub inner_expr : (e : Expr) → Inner (expr_places e)
inner_expr (Plain a) = inner_atom a
inner_expr (Binary a op b) = inner_append (atom_places a) (atom_places b) (inner_atom a) (inner_atom b)

pub inner_test : (t : Test) → Inner (test_places t)
inner_test t = inner_append (atom_places t.left) (atom_places t.right) (inner_atom t.left) (inner_atom t.right)

pub inner_call : (asks : Bool) (c : Call) → Inner (call_places asks c)
inner_call asks c = (tt, (tt, (tt, inner_atoms c.args)))

pub inner_body : (inside : Bool) (body : Stmts) → Inner (places inside body)
inner_body inside end = tt
inner_body inside (command c rest) = inner_append (call_places false c) (places inside rest) (inner_call false c) (inner_body inside rest)
inner_body inside (query x c rest) = (tt, inner_append (call_places true c) (places inside rest) (inner_call true c) (inner_body inside rest))
inner_body inside (assign x e rest) = (tt, inner_append (expr_places e) (places inside rest) (inner_expr e) (inner_body inside rest))
inner_body inside (choose t first rest) =
    inner_append (test_places t) (places inside first ++ places inside rest) (inner_test t)
    (inner_append (places inside first) (places inside rest) (inner_body inside first) (inner_body inside rest))
inner_body inside (choose_else t first other rest) =
    inner_append (test_places t) (places inside first ++ (places inside other ++ places inside rest)) (inner_test t)
    (inner_append (places inside first) (places inside other ++ places inside rest) (inner_body inside first)
    (inner_append (places inside other) (places inside rest) (inner_body inside other) (inner_body inside rest)))
inner_body inside (again n body rest) = (tt, inner_append (places true body) (places inside rest) (inner_body true body) (inner_body inside rest))
inner_body inside (tree.leave rest) = (tt, inner_body inside rest)

-- the scope between some places and the others
pub parted : (s t : Scope) (ps qs : List TextPlace) → scope_or_fault s (ps ++ qs) ≡ Ok t → (u : Scope) × (scope_or_fault s ps ≡ Ok u) × (scope_or_fault u qs ≡ Ok t)
parted s t ps qs h = then_at_ok (scope_or_fault s ps) (λ u. scope_or_fault u qs) t (sym (met-append s ps qs) ∙ h)

pub kept_by_one : (s : Scope) (p : TextPlace) → IsInner p → next_scope s p ≡ with_names s (next_scope s p).variables
kept_by_one s (object n k) i = absurd i
kept_by_one s (client n) i = absurd i
kept_by_one s separate i = absurd i
kept_by_one s (listed o) i = absurd i
kept_by_one s (template n ks) i = absurd i
kept_by_one s _ i = refl

pub kept : (s t : Scope) (ps : List TextPlace) → Inner ps → scope_or_fault s ps ≡ Ok t → t ≡ with_names s t.variables
kept s t [] i h = let e = ok_same s t h in e ∙ ap (λ v. with_names s v.variables) (sym e)
kept s t (p ∷ ps) i h =
    kept (next_scope s p) t ps i.1 (split s t p ps h).1 ∙ ap (λ u. with_names u t.variables) (kept_by_one s p i.0)
