-- The list of a client's variables has each name that its blocks assign or read, and has it once. The proofs that a
-- script has no fault exactly where it is well formed use it to count the variables. It shows by induction on the
-- statements that their places name just these variables, and that adding a name only where it is new keeps the names
-- distinct.
use Rattle.std.proofs.Common.{◌≡◌, Bool, true, false, ◌||◌, List, [], ◌∷◌, ◌++◌, length, refl, ap, sym, ◌∙◌, subst, if◌then◌else◌}
use Rattle.std.proofs.lemmas.Cmp.{nat_list_eq_equiv}
use Rattle.std.proofs.lemmas.List.Folds.{list_any-append}
use Rattle.std.proofs.lemmas.Map.Made.{length-from_keys}
use Rattle.std.specs.Cmp.Lexicographic.{same_text}
use Rattle.std.specs.List.{IsDistinct}
use Rattle.std.specs.Set.{distinct_count}
use Rattle.std.proofs.lemmas.Bool.{or_parts}
use mathlib.Core.Bool.{or-false}
use Rattle.qs_script.specs.declared.tree.tree.Atom.{Atom}
use Rattle.qs_script.specs.declared.tree.tree.Atom.TheVariants.{Variable, Number}
use Rattle.qs_script.specs.declared.tree.tree.Expr.{Expr}
use Rattle.qs_script.specs.declared.tree.tree.Expr.TheVariants.{Plain, Binary}
use Rattle.qs_script.specs.declared.tree.tree.Test.{Test}
use Rattle.qs_script.specs.declared.tree.tree.Call.{Call}
use Rattle.qs_script.specs.declared.tree.tree.Block.{Block}
use Rattle.qs_script.specs.declared.tree.tree.ClientItem.{ClientItem}
use Rattle.qs_script.specs.audit.tree.Tree as tree
use Rattle.qs_program.specs.audit.Numbering.{Name, same_name, is_among, with_name}
use Rattle.qs_check.specs.audit.fault_places.Places.{TextPlace, client, variable, places, atom_places, atoms_places, expr_places, test_places, call_places, listed_places, block_places, blocks_places}
use Rattle.qs_check.specs.audit.fault_places.Variables.{variables_at, variables_of}
use Rattle.qs_check.proofs.fault_places.Inner.{all_both}
use Rattle.qs_check.specs.WellFormed.{atom_names, atoms_names, expr_names, test_names, variables_in, variables_in_all}

-- more names, each where it is new
abbrev pub all_named : List Name → List Name → List Name
all_named names [] = names
all_named names (x ∷ xs) = all_named (with_name names x) xs

all_named-append : (names xs ys : List Name) → all_named names (xs ++ ys) ≡ all_named (all_named names xs) ys
all_named-append names [] ys = refl
all_named-append names (x ∷ xs) ys = all_named-append (with_name names x) xs ys

pub variables_at-append : (names : List Name) (ps qs : List TextPlace) → variables_at names (ps ++ qs) ≡ variables_at (variables_at names ps) qs
variables_at-append names [] qs = refl
variables_at-append names (client n ∷ ps) qs = variables_at-append [] ps qs
variables_at-append names (variable x ∷ ps) qs = variables_at-append (with_name names x) ps qs
variables_at-append names (_ ∷ ps) qs = variables_at-append names ps qs

-- the places name these variables
abbrev Tell : List TextPlace → List Name → Type 0
Tell ps xs = (names : List Name) → variables_at names ps ≡ all_named names xs

tell_both : (ps qs : List TextPlace) (xs ys : List Name) → Tell ps xs → Tell qs ys → Tell (ps ++ qs) (xs ++ ys)
tell_both ps qs xs ys f g = λ names.
    variables_at-append names ps qs ∙ g (variables_at names ps) ∙ ap (λ ns. all_named ns ys) (f names) ∙ sym (all_named-append names xs ys)

tell_atom : (a : Atom) → Tell (atom_places a) (atom_names a)
tell_atom (Variable x) = λ names. refl
tell_atom (Number n) = λ names. refl

tell_atoms : (xs : List Atom) → Tell (atoms_places xs) (atoms_names xs)
tell_atoms [] = λ names. refl
tell_atoms (a ∷ xs) = tell_both (atom_places a) (atoms_places xs) (atom_names a) (atoms_names xs) (tell_atom a) (tell_atoms xs)

tell_expr : (e : Expr) → Tell (expr_places e) (expr_names e)
tell_expr (Plain a) = tell_atom a
tell_expr (Binary a op b) = tell_both (atom_places a) (atom_places b) (atom_names a) (atom_names b) (tell_atom a) (tell_atom b)

tell_test : (t : Test) → Tell (test_places t) (test_names t)
tell_test t = tell_both (atom_places t.left) (atom_places t.right) (atom_names t.left) (atom_names t.right) (tell_atom t.left) (tell_atom t.right)

tell_call : (asks : Bool) (c : Call) → Tell (call_places asks c) (atoms_names c.args)
tell_call asks c = tell_atoms c.args

pub tell_body : (inside : Bool) (body : tree.Stmts) → Tell (places inside body) (variables_in body)
tell_body inside tree.end = λ names. refl
tell_body inside (tree.command c rest) =
    tell_both (call_places false c) (places inside rest) (atoms_names c.args) (variables_in rest) (tell_call false c) (tell_body inside rest)
tell_body inside (tree.query x c rest) = λ names.
    tell_both (call_places true c) (places inside rest) (atoms_names c.args) (variables_in rest) (tell_call true c) (tell_body inside rest) (with_name names x)
tell_body inside (tree.assign x e rest) = λ names.
    tell_both (expr_places e) (places inside rest) (expr_names e) (variables_in rest) (tell_expr e) (tell_body inside rest) (with_name names x)
tell_body inside (tree.choose t first rest) =
    tell_both (test_places t) (places inside first ++ places inside rest) (test_names t) (variables_in first ++ variables_in rest) (tell_test t)
    (tell_both (places inside first) (places inside rest) (variables_in first) (variables_in rest) (tell_body inside first) (tell_body inside rest))
tell_body inside (tree.choose_else t first other rest) =
    tell_both (test_places t) (places inside first ++ (places inside other ++ places inside rest)) (test_names t) (variables_in first ++ (variables_in other ++ variables_in rest)) (tell_test t)
    (tell_both (places inside first) (places inside other ++ places inside rest) (variables_in first) (variables_in other ++ variables_in rest) (tell_body inside first)
    (tell_both (places inside other) (places inside rest) (variables_in other) (variables_in rest) (tell_body inside other) (tell_body inside rest)))
tell_body inside (tree.again n body rest) =
    tell_both (places true body) (places inside rest) (variables_in body) (variables_in rest) (tell_body true body) (tell_body inside rest)
tell_body inside (tree.leave rest) = tell_body inside rest

pub tell_list : (ns : List Name) → Tell (listed_places ns) []
tell_list [] = λ names. refl
tell_list (n ∷ ns) = tell_list ns

pub tell_block : (b : Block) → Tell (block_places b) (variables_in b.body)
tell_block b = tell_both (listed_places b.reserved) (places false b.body) [] (variables_in b.body) (tell_list b.reserved) (tell_body false b.body)

pub tell_blocks : (bs : List Block) → Tell (blocks_places bs) (variables_in_all bs)
tell_blocks [] = λ names. refl
tell_blocks (b ∷ bs) = tell_both (block_places b) (blocks_places bs) (variables_in b.body) (variables_in_all bs) (tell_block b) (tell_blocks bs)

or_assoc : (a b c : Bool) → ((a || b) || c) ≡ (a || (b || c))
or_assoc true b c = refl
or_assoc false b c = refl

-- a name that is there already adds nothing
nothing_new : (names : List Name) (x q : Name) (s : Bool) → same_name q x ≡ s → is_among names x ≡ true → is_among names q ≡ (is_among names q || s)
nothing_new names x q true e h =
    let P : Name → Bool = λ n. is_among names n in
    let there : is_among names q ≡ true = ap P (same_text q x (sym e)) ∙ h in
    there ∙ sym (ap (λ b. b || true) there)
nothing_new names x q false e h = sym (or-false (is_among names q))

one_more : (names : List Name) (x q : Name) (b : Bool) → b ≡ is_among names x → is_among (if b then names else names ++ x ∷ []) q ≡ (is_among names q || same_name q x)
one_more names x q true e = nothing_new names x q (same_name q x) refl (sym e)
one_more names x q false e = list_any-append (same_name q) names (x ∷ []) ∙ ap (λ b. is_among names q || b) (or-false (same_name q x))

pub among_named : (names xs : List Name) (q : Name) → is_among (all_named names xs) q ≡ (is_among names q || is_among xs q)
among_named names [] q = sym (or-false (is_among names q))
among_named names (x ∷ xs) q =
    among_named (with_name names x) xs q
    ∙ ap (λ b. b || is_among xs q) (one_more names x q (is_among names x) refl)
    ∙ or_assoc (is_among names q) (same_name q x) (is_among xs q)

-- a list keeps its names apart with a new name at its end
pub distinct_last : (names : List Name) (x : Name) → IsDistinct same_name names → is_among names x ≡ false → IsDistinct same_name (names ++ x ∷ [])
unfolding IsDistinct
distinct_last [] x d h = (tt, tt)
distinct_last (y ∷ names) x d h = (
  all_both (λ z. same_name y z ≡ false) names (x ∷ []) d.0 (nat_list_eq_equiv.symm y x ∙ (or_parts (same_name x y) (is_among names x) h).0, tt),
  distinct_last names x d.1 (or_parts (same_name x y) (is_among names x) h).1,
)

distinct_named : (names : List Name) (x : Name) (b : Bool) → b ≡ is_among names x → IsDistinct same_name names → IsDistinct same_name (if b then names else names ++ x ∷ [])
distinct_named names x true e d = d
distinct_named names x false e d = distinct_last names x d (sym e)

pub distinct_all : (names xs : List Name) → IsDistinct same_name names → IsDistinct same_name (all_named names xs)
distinct_all names [] d = d
distinct_all names (x ∷ xs) d = distinct_all (with_name names x) xs (distinct_named names x (is_among names x) refl d)

pub no_names : IsDistinct same_name []
unfolding IsDistinct
no_names = tt

pub distinct_variables : (c : ClientItem) → IsDistinct same_name (variables_of c)
distinct_variables c = let P : List Name → Type 0 = λ ns. IsDistinct same_name ns in subst P (sym (tell_blocks c.blocks [])) (distinct_all [] (variables_in_all c.blocks) no_names)

-- what a block names is among its client's variables
pub among_variables : (c : ClientItem) (x : Name) → is_among (variables_of c) x ≡ is_among (variables_in_all c.blocks) x
among_variables c x = ap (λ ns. is_among ns x) (tell_blocks c.blocks []) ∙ among_named [] (variables_in_all c.blocks) x

pub count_variables : (c : ClientItem) → length (variables_of c) ≡ distinct_count same_name (variables_in_all c.blocks)
count_variables c = length-from_keys nat_list_eq_equiv (variables_of c) (variables_in_all c.blocks) (distinct_variables c) (among_variables c)
