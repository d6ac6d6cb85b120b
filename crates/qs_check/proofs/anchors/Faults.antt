-- The first anchor with a fault has the first fault of the text: the places at the anchors, one after another, are the
-- places of the script, and of a template's formals and blocks by themselves. By induction on the tree.
use Rattle.std.proofs.Common.{◌≡◌, ℕ, suc, ◌+◌, List, [], ◌∷◌, ◌++◌, Bool, true, false, length, map, refl, ap, sym, ◌∙◌, append_assoc, option_map, Ok, Err}
use Rattle.qs_script.specs.declared.tree.tree.Atom.{Atom}
use Rattle.qs_script.specs.declared.tree.tree.Atom.TheVariants.{Variable, Number}
use Rattle.qs_script.specs.declared.tree.tree.Expr.{Expr}
use Rattle.qs_script.specs.declared.tree.tree.Expr.TheVariants.{Binary, Plain}
use Rattle.qs_script.specs.declared.tree.tree.Call.{Call}
use Rattle.qs_script.specs.declared.tree.tree.Block.{Block}
use Rattle.qs_script.specs.declared.tree.tree.KindText.{KindText}
use Rattle.qs_script.specs.declared.tree.tree.KindText.TheVariants.{Account}
use Rattle.qs_script.specs.declared.tree.tree.Formal.{Formal}
use Rattle.qs_script.specs.declared.tree.tree.TemplateItem.{TemplateItem}
use Rattle.qs_script.specs.declared.tree.tree.Item.{Item}
use Rattle.qs_script.specs.declared.tree.tree.Item.TheVariants.{Object, Client, Template, Started}
use Rattle.qs_script.specs.audit.tree.Tree.{Stmts, end, command, query, assign, choose, choose_else, again, leave}
use Rattle.qs_program.specs.audit.Limits.{most_turns}
use Rattle.qs_check.specs.audit.fault_places.Places.{Scope, TextPlace, ScopeOrFault, object, number, client, separate, listed, target, operation, arguments, variable, leaves, template, text, starts, given, pass_place, scope_or_fault, then_at, at_each, atom_places, atoms_places, expr_places, call_places, places, listed_places, block_places, blocks_places, kind_places, formals_places, formal_kinds, kind_of, text_places, start, fault_in, fault_of_text, given_places, item_places, script_places}
use Rattle.qs_check.proofs.fault_places.Walks.{met-append}
use Rattle.qs_check.specs.declared.anchors.anchor.Anchor.{Anchor}
use Rattle.qs_check.specs.declared.anchors.anchor.Anchor.TheVariants as m
use Rattle.qs_check.specs.anchors.Anchors.{anchor_places, atom_anchor, expr_anchors, test_anchors, call_anchors, anchors, block_anchors, blocks_anchors, kind_anchors, formal_anchor, text_anchors, given_anchors, item_anchors}
use Rattle.qs_check.specs.anchors.Anchored.{ScopeOrAnchored, at_anchor, then_on, scope_or_anchored, outside, item_anchored, items_anchored, anchored_in, first_anchored}

abbrev at_anchors : List Anchor → List TextPlace
at_anchors = at_each anchor_places

-- the places at some anchors, and at others after them
parts : (ms ns : List Anchor) → at_anchors (ms ++ ns) ≡ at_anchors ms ++ at_anchors ns
parts [] ns = refl
parts (x ∷ ms) ns = ap (λ ps. anchor_places x ++ ps) (parts ms ns) ∙ sym (append_assoc (anchor_places x) (at_anchors ms) (at_anchors ns))

joined : (ms ns : List Anchor) (ps qs : List TextPlace) → at_anchors ms ≡ ps → at_anchors ns ≡ qs → at_anchors (ms ++ ns) ≡ ps ++ qs
joined ms ns ps qs h k = parts ms ns ∙ ap (λ x. x ++ at_anchors ns) h ∙ ap (λ x. ps ++ x) k

one_atom : (a : Atom) → anchor_places (atom_anchor a) ≡ atom_places a
one_atom (Variable x) = refl
one_atom (Number z) = refl

two_atoms : (a b : Atom) → at_anchors (atom_anchor a ∷ atom_anchor b ∷ []) ≡ atom_places a ++ atom_places b
two_atoms (Variable x) (Variable y) = refl
two_atoms (Number z) (Variable y) = refl
two_atoms _ _ = refl

atoms : (xs : List Atom) → at_anchors (map atom_anchor xs) ≡ atoms_places xs
atoms [] = refl
atoms (a ∷ xs) = ap (λ ps. ps ++ at_anchors (map atom_anchor xs)) (one_atom a) ∙ ap (λ ps. atom_places a ++ ps) (atoms xs)

expr : (e : Expr) → at_anchors (expr_anchors e) ≡ expr_places e
expr (Plain (Variable x)) = refl
expr (Plain (Number z)) = refl
expr (Binary a op b) = two_atoms a b

call : (asks : Bool) (c : Call) → at_anchors (call_anchors asks c) ≡ call_places asks c
call asks c = ap (λ ps. target c.object ∷ operation asks c.object c.op ∷ arguments asks c.object c.op (length c.args) ∷ ps) (atoms c.args)

body : (inside : Bool) (s : Stmts) → at_anchors (anchors inside s) ≡ places inside s
body inside end = refl
body inside (command c rest) = joined (call_anchors false c) (anchors inside rest) _ _ (call false c) (body inside rest)
body inside (query x c rest) = ap (λ ps. variable x ∷ ps) (joined (call_anchors true c) (anchors inside rest) _ _ (call true c) (body inside rest))
body inside (assign x e rest) = ap (λ ps. variable x ∷ ps) (joined (expr_anchors e) (anchors inside rest) _ _ (expr e) (body inside rest))
body inside (choose t first rest) =
    joined (test_anchors t) (anchors inside first ++ anchors inside rest) _ _ (two_atoms t.left t.right)
    (joined (anchors inside first) (anchors inside rest) _ _ (body inside first) (body inside rest))
body inside (choose_else t first other rest) =
    joined (test_anchors t) (anchors inside first ++ (anchors inside other ++ anchors inside rest)) _ _ (two_atoms t.left t.right)
    (joined (anchors inside first) (anchors inside other ++ anchors inside rest) _ _ (body inside first)
    (joined (anchors inside other) (anchors inside rest) _ _ (body inside other) (body inside rest)))
body inside (again n b rest) =
    ap (λ ps. number 0 most_turns n ∷ ps) (joined (anchors true b) (anchors inside rest) _ _ (body true b) (body inside rest))
body inside (leave rest) = ap (λ ps. leaves inside ∷ ps) (body inside rest)

list : (names : List (List ℕ)) → at_anchors (map m.Listed names) ≡ listed_places names
list [] = refl
list (n ∷ ns) = ap (λ ps. listed n ∷ ps) (list ns)

block : (b : Block) → at_anchors (block_anchors b) ≡ block_places b
block b = ap (λ ps. separate ∷ ps) (joined (map m.Listed b.reserved) (anchors false b.body) _ _ (list b.reserved) (body false b.body))

blocks : (bs : List Block) → at_anchors (blocks_anchors bs) ≡ blocks_places bs
blocks [] = refl
blocks (b ∷ bs) = joined (block_anchors b) (blocks_anchors bs) _ _ (block b) (blocks bs)

kind : (k : KindText) → at_anchors (kind_anchors k) ≡ kind_places k
kind (Account n) = refl
kind _ = refl

formals : (fs : List Formal) → at_anchors (map formal_anchor fs) ≡ formals_places fs
formals [] = refl
formals (f ∷ fs) = ap (λ ps. anchor_places (formal_anchor f) ++ ps) (formals fs)

text_of : (t : TemplateItem) → at_anchors (text_anchors t) ≡ text_places t
text_of t = joined (map formal_anchor t.formals) (blocks_anchors t.blocks) _ _ (formals t.formals) (blocks t.blocks)

all_given : (n : List ℕ) (i : ℕ) (os : List (List ℕ)) → at_anchors (given_anchors n i os) ≡ given_places n i os
all_given n i [] = refl
all_given n i (x ∷ os) = ap (λ ps. given n i x ∷ ps) (all_given n (suc i) os)

-- a walk without the numbers of its anchors
abbrev unnumbered : ScopeOrAnchored → ScopeOrFault
unnumbered (Ok s) = Ok s
unnumbered (Err anchored) = Err anchored.fault

at_then : (r : ScopeOrFault) (n : ℕ) (f : Scope → ScopeOrAnchored) (g : Scope → ScopeOrFault) → ((t : Scope) → unnumbered (f t) ≡ g t)
    → unnumbered (then_on (at_anchor n r) f) ≡ then_at r g
at_then (Ok t) n f g h = h t
at_then (Err e) n f g h = refl

on_then : (r : ScopeOrAnchored) (f : Scope → ScopeOrAnchored) (g : Scope → ScopeOrFault) → ((t : Scope) → unnumbered (f t) ≡ g t)
    → unnumbered (then_on r f) ≡ then_at (unnumbered r) g
on_then (Ok t) f g h = h t
on_then (Err e) f g h = refl

walk : (s : Scope) (n : ℕ) (ms : List Anchor) → unnumbered (scope_or_anchored s n ms) ≡ scope_or_fault s (at_anchors ms)
walk s n [] = refl
walk s n (x ∷ ms) =
    at_then (scope_or_fault s (anchor_places x)) n (λ t. scope_or_anchored t (n + 1) ms) (λ t. scope_or_fault t (at_anchors ms)) (λ t. walk t (n + 1) ms)
    ∙ sym (met-append s (anchor_places x) (at_anchors ms))

from_outside : (u : Scope) (r : ScopeOrAnchored) → unnumbered (outside u r) ≡ scope_or_fault u (text (fault_in (unnumbered r)) ∷ [])
from_outside u (Ok t) = refl
from_outside u (Err e) = refl

text_alone : (u : Scope) (n : ℕ) (t : TemplateItem) → unnumbered (outside u (scope_or_anchored start n (text_anchors t))) ≡ scope_or_fault u (text (fault_of_text t) ∷ [])
text_alone u n t =
    from_outside u (scope_or_anchored start n (text_anchors t))
    ∙ ap (λ r. scope_or_fault u (text (fault_in r) ∷ [])) (walk start n (text_anchors t) ∙ ap (scope_or_fault start) (text_of t))

item : (s : Scope) (n : ℕ) (i : Item) → unnumbered (item_anchored s n i) ≡ scope_or_fault s (item_places i)
item s n (Object o) = walk s n (item_anchors (Object o)) ∙ ap (λ ps. scope_or_fault s (object o.name (kind_of o.kind) ∷ ps)) (kind o.kind)
item s n (Client c) = walk s n (item_anchors (Client c)) ∙ ap (λ ps. scope_or_fault s (client c.name ∷ ps)) (blocks c.blocks)
item s n (Template t) =
    at_then (pass_place s (template t.name (formal_kinds t.formals))) n (λ u. outside u (scope_or_anchored start (n + 1) (text_anchors t)))
    (λ u. scope_or_fault u (text (fault_of_text t) ∷ [])) (λ u. text_alone u (n + 1) t)
item s n (Started c) =
    walk s n (item_anchors (Started c))
    ∙ ap (λ ps. scope_or_fault s (client c.name ∷ starts c.template (length c.objects) ∷ ps)) (all_given c.template 0 c.objects)

items : (s : Scope) (n : ℕ) (is : List Item) → unnumbered (items_anchored s n is) ≡ scope_or_fault s (script_places is)
items s n [] = refl
items s n (i ∷ is) =
    let next : Scope → ScopeOrAnchored = λ t. items_anchored t (n + length (item_anchors i)) is in
    on_then (item_anchored s n i) next (λ t. scope_or_fault t (script_places is)) (λ t. items t (n + length (item_anchors i)) is)
    ∙ ap (λ r. then_at r (λ t. scope_or_fault t (script_places is))) (item s n i)
    ∙ sym (met-append s (item_places i) (script_places is))

its_fault : (r : ScopeOrAnchored) → option_map (λ anchored. anchored.fault) (anchored_in r) ≡ fault_in (unnumbered r)
its_fault (Ok s) = refl
its_fault (Err anchored) = refl

pub first_is_first : (is : List Item) → option_map (λ anchored. anchored.fault) (first_anchored is) ≡ fault_in (scope_or_fault start (script_places is))
first_is_first is = its_fault (items_anchored start 0 is) ∙ ap fault_in (items start 0 is)
