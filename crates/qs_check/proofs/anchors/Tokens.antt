-- The anchors of a tree are those of any tokens that are written for it. By induction on the tree: each part has its
-- anchors first, and then those of the tokens after it.
use Rattle.std.proofs.Common.{◌≡◌, ℕ, zero, suc, inl, inr, List, [], ◌∷◌, ◌++◌, Bool, true, false, map, refl, ap, sym, ◌∙◌, pos, neg_ℤ, unsigned_abs, append-nil, append_assoc}
use Rattle.std.proofs.lemmas.List.{map-append}
use Rattle.qs_script.specs.declared.tokens.token.Token.{Token}
use Rattle.qs_script.specs.declared.tree.tree.Atom.{Atom}
use Rattle.qs_script.specs.declared.tree.tree.Atom.TheVariants.{Variable, Number}
use Rattle.qs_script.specs.declared.tree.tree.Expr.{Expr}
use Rattle.qs_script.specs.declared.tree.tree.Expr.TheVariants.{Plain, Binary}
use Rattle.qs_script.specs.declared.tree.tree.Operator.{Operator}
use Rattle.qs_script.specs.declared.tree.tree.Relation.{Relation}
use Rattle.qs_script.specs.declared.tree.tree.Test.{Test}
use Rattle.qs_script.specs.declared.tree.tree.Call.{Call}
use Rattle.qs_script.specs.declared.tree.tree.Block.{Block}
use Rattle.qs_script.specs.declared.tree.tree.KindText.{KindText}
use Rattle.qs_script.specs.declared.tree.tree.KindText.TheVariants.{Account}
use Rattle.qs_script.specs.declared.tree.tree.KindWord.{KindWord}
use Rattle.qs_script.specs.declared.tree.tree.Formal.{Formal}
use Rattle.qs_script.specs.declared.tree.tree.Item.{Item}
use Rattle.qs_script.specs.declared.tree.tree.Item.TheVariants.{Object, Client, Template, Started}
use Rattle.qs_script.specs.declared.tokens.token.Token.TheVariants as t
use Rattle.qs_script.specs.declared.tree.tree.Operator.TheVariants as o
use Rattle.qs_script.specs.declared.tree.tree.Relation.TheVariants as r
use Rattle.qs_script.specs.declared.tree.tree.KindWord.TheVariants as kind
use Rattle.qs_script.specs.audit.tree.Limits.{most_levels}
use Rattle.qs_script.specs.audit.tree.Tree.{Stmts, end, command, query, assign, choose, choose_else, again, leave}
use Rattle.qs_script.specs.audit.grammar.Grammar.{IsAtom, AreMore, AreArgs, IsCall, operator_token, relation_token, IsExpr, IsTest, AreStmts, AreNames, AreSomeNames, IsBlock, AreBlocks, IsKind, kind_token, IsFormal, AreMoreFormals, AreFormals, AreMoreNames, AreGiven, IsItem, AreItems, IsScript}
use Rattle.qs_check.specs.declared.anchors.anchor.Anchor.{Anchor}
use Rattle.qs_check.specs.declared.anchors.anchor.Anchor.TheVariants as m
use Rattle.qs_check.specs.anchors.Anchors.{anchor_token, anchors_in, atom_anchor, expr_anchors, test_anchors, call_anchors, anchors, block_anchors, blocks_anchors, kind_anchors, formal_anchor, given_anchors, item_anchors, script_anchors}

-- some anchors, and others after them
joined : (ms ns : List Anchor) (us vs ws : List Token) → us ≡ map anchor_token ms ++ vs → vs ≡ map anchor_token ns ++ ws → us ≡ map anchor_token (ms ++ ns) ++ ws
joined ms ns us vs ws p q = p ∙ ap (λ x. map anchor_token ms ++ x) q ∙ sym (simp (map-append, append_assoc))

abs_neg : (n : ℕ) → unsigned_abs (neg_ℤ (pos n)) ≡ n
abs_neg zero = refl
abs_neg (suc n) = refl

atom_tokens : (a : Atom) (ts rest : List Token) → IsAtom a ts rest → anchors_in ts ≡ anchor_token (atom_anchor a) ∷ anchors_in rest
atom_tokens (Variable x) ts rest h = ap anchors_in h
atom_tokens (Number z) ts rest (n, inl (e, h)) = ap anchors_in h ∙ ap (λ k. t.Number (unsigned_abs k) ∷ anchors_in rest) (sym e)
atom_tokens (Number z) ts rest (n, inr (e, h)) =
    ap anchors_in h ∙ ap (λ k. t.Number k ∷ anchors_in rest) (sym (ap unsigned_abs e ∙ abs_neg n))

more_tokens : (xs : List Atom) (ts rest : List Token) → AreMore xs ts rest → anchors_in ts ≡ map anchor_token (map atom_anchor xs) ++ anchors_in rest
more_tokens [] ts rest h = ap anchors_in h
more_tokens (a ∷ xs) ts rest (x, y, e, h, k) =
    ap anchors_in e ∙ atom_tokens a x y h ∙ ap (λ us. anchor_token (atom_anchor a) ∷ us) (more_tokens xs y rest k)

args_tokens : (xs : List Atom) (ts rest : List Token) → AreArgs xs ts rest → anchors_in ts ≡ map anchor_token (map atom_anchor xs) ++ anchors_in rest
args_tokens [] ts rest h = ap anchors_in h
args_tokens (a ∷ xs) ts rest (y, h, k) = atom_tokens a ts y h ∙ ap (λ us. anchor_token (atom_anchor a) ∷ us) (more_tokens xs y rest k)

call_tokens : (asks : Bool) (c : Call) (ts rest : List Token) → IsCall c ts rest → anchors_in ts ≡ map anchor_token (call_anchors asks c) ++ anchors_in rest
call_tokens asks c ts rest (x, e, h) =
    ap anchors_in e ∙ ap (λ us. t.Name c.object ∷ t.Name c.op ∷ us) (args_tokens c.args x (t.CloseParen ∷ rest) h)

-- operators and relations are no anchors
operator_silent : (op : Operator) (ts : List Token) → anchors_in (operator_token op ∷ ts) ≡ anchors_in ts
operator_silent o.Plus ts = refl
operator_silent _ ts = refl

relation_silent : (rel : Relation) (ts : List Token) → anchors_in (relation_token rel ∷ ts) ≡ anchors_in ts
relation_silent r.Equal ts = refl
relation_silent _ ts = refl

expr_tokens : (e : Expr) (ts rest : List Token) → IsExpr e ts rest → anchors_in ts ≡ map anchor_token (expr_anchors e) ++ anchors_in rest
expr_tokens (Plain a) ts rest h = atom_tokens a ts rest h
expr_tokens (Binary a op b) ts rest (x, h, k) =
    atom_tokens a ts (operator_token op ∷ x) h ∙ ap (λ us. anchor_token (atom_anchor a) ∷ us) (operator_silent op x ∙ atom_tokens b x rest k)

test_tokens : (c : Test) (ts rest : List Token) → IsTest c ts rest → anchors_in ts ≡ map anchor_token (test_anchors c) ++ anchors_in rest
test_tokens c ts rest (x, h, k) =
    atom_tokens c.left ts (relation_token c.relation ∷ x) h
    ∙ ap (λ us. anchor_token (atom_anchor c.left) ∷ us) (relation_silent c.relation x ∙ atom_tokens c.right x rest k)

stmts_tokens : (levels : ℕ) (inside : Bool) (s : Stmts) (ts rest : List Token) → AreStmts levels s ts rest → anchors_in ts ≡ map anchor_token (anchors inside s) ++ anchors_in rest
stmts_tokens levels inside end ts rest h = ap anchors_in h
stmts_tokens zero inside _ ts rest h = absurd h
stmts_tokens (suc n) inside (command c more) ts rest (y, h, k) =
    joined (call_anchors false c) (anchors inside more) (anchors_in ts) (anchors_in y) (anchors_in rest)
    (call_tokens false c ts (t.Semicolon ∷ y) h) (stmts_tokens (suc n) inside more y rest k)
stmts_tokens (suc n) inside (query v c more) ts rest (x, y, e, h, k) =
    ap anchors_in e
    ∙ ap (λ us. t.Name v ∷ us) (joined (call_anchors true c) (anchors inside more) (anchors_in x) (anchors_in y) (anchors_in rest)
    (call_tokens true c x (t.Semicolon ∷ y) h) (stmts_tokens (suc n) inside more y rest k))
stmts_tokens (suc n) inside (assign v c more) ts rest (x, y, e, h, k) =
    ap anchors_in e
    ∙ ap (λ us. t.Name v ∷ us) (joined (expr_anchors c) (anchors inside more) (anchors_in x) (anchors_in y) (anchors_in rest)
    (expr_tokens c x (t.Semicolon ∷ y) h) (stmts_tokens (suc n) inside more y rest k))
stmts_tokens (suc n) inside (choose c first more) ts rest (x, y, z, e, h, k, l) =
    ap anchors_in e
    ∙ joined (test_anchors c) (anchors inside first ++ anchors inside more) (anchors_in x) (anchors_in y) (anchors_in rest)
    (test_tokens c x (t.OpenBrace ∷ y) h)
    (joined (anchors inside first) (anchors inside more) (anchors_in y) (anchors_in z) (anchors_in rest)
    (stmts_tokens n inside first y (t.CloseBrace ∷ z) k) (stmts_tokens (suc n) inside more z rest l))
stmts_tokens (suc n) inside (choose_else c first other more) ts rest (x, y, z, w, e, h, k, l, q) =
    ap anchors_in e
    ∙ joined (test_anchors c) (anchors inside first ++ (anchors inside other ++ anchors inside more)) (anchors_in x) (anchors_in y) (anchors_in rest)
    (test_tokens c x (t.OpenBrace ∷ y) h)
    (joined (anchors inside first) (anchors inside other ++ anchors inside more) (anchors_in y) (anchors_in z) (anchors_in rest)
    (stmts_tokens n inside first y (t.CloseBrace ∷ t.Else ∷ t.OpenBrace ∷ z) k)
    (joined (anchors inside other) (anchors inside more) (anchors_in z) (anchors_in w) (anchors_in rest)
    (stmts_tokens n inside other z (t.CloseBrace ∷ w) l) (stmts_tokens (suc n) inside more w rest q)))
stmts_tokens (suc n) inside (again k body more) ts rest (x, y, e, h, q) =
    ap anchors_in e
    ∙ ap (λ us. t.Number k ∷ us) (joined (anchors true body) (anchors inside more) (anchors_in x) (anchors_in y) (anchors_in rest)
    (stmts_tokens n true body x (t.CloseBrace ∷ y) h) (stmts_tokens (suc n) inside more y rest q))
stmts_tokens (suc n) inside (leave more) ts rest (y, e, k) =
    ap anchors_in e ∙ ap (λ us. t.Leave ∷ us) (stmts_tokens (suc n) inside more y rest k)

names_tokens : (ns : List (List ℕ)) (ts rest : List Token) → AreNames ns ts rest → anchors_in ts ≡ map anchor_token (map m.Listed ns) ++ anchors_in rest
names_tokens [] ts rest h = ap anchors_in h
names_tokens (n ∷ ns) ts rest (x, e, h) = ap anchors_in e ∙ ap (λ us. t.Name n ∷ us) (names_tokens ns x rest h)

list_tokens : (ns : List (List ℕ)) (ts rest : List Token) → AreSomeNames ns ts rest → anchors_in ts ≡ map anchor_token (map m.Listed ns) ++ anchors_in rest
list_tokens [] ts rest h = absurd h
list_tokens (n ∷ ns) ts rest h = names_tokens (n ∷ ns) ts rest h

block_tokens : (b : Block) (ts rest : List Token) → IsBlock b ts rest → anchors_in ts ≡ map anchor_token (block_anchors b) ++ anchors_in rest
block_tokens b ts rest (x, y, e, h, k) =
    ap anchors_in e
    ∙ ap (λ us. t.Separate ∷ us) (joined (map m.Listed b.reserved) (anchors false b.body) (anchors_in x) (anchors_in y) (anchors_in rest)
    (list_tokens b.reserved x (t.OpenBrace ∷ y) h) (stmts_tokens most_levels false b.body y (t.CloseBrace ∷ rest) k))

blocks_tokens : (bs : List Block) (ts rest : List Token) → AreBlocks bs ts rest → anchors_in ts ≡ map anchor_token (blocks_anchors bs) ++ anchors_in rest
blocks_tokens [] ts rest h = ap anchors_in h
blocks_tokens (b ∷ bs) ts rest (x, h, k) =
    joined (block_anchors b) (blocks_anchors bs) (anchors_in ts) (anchors_in x) (anchors_in rest) (block_tokens b ts x h) (blocks_tokens bs x rest k)

kind_tokens : (k : KindText) (ts rest : List Token) → IsKind k ts rest → anchors_in ts ≡ map anchor_token (kind_anchors k) ++ anchors_in rest
kind_tokens (Account n) ts rest h = ap anchors_in h
kind_tokens _ ts rest h = ap anchors_in h

kind_silent : (k : KindWord) (ts : List Token) → anchors_in (kind_token k ∷ ts) ≡ anchors_in ts
kind_silent kind.Account ts = refl
kind_silent _ ts = refl

formal_tokens : (f : Formal) (ts rest : List Token) → IsFormal f ts rest → anchors_in ts ≡ t.Name f.name ∷ anchors_in rest
formal_tokens f ts rest h = ap anchors_in h ∙ kind_silent f.kind (t.Name f.name ∷ rest)

more_formals_tokens : (fs : List Formal) (ts rest : List Token) → AreMoreFormals fs ts rest → anchors_in ts ≡ map anchor_token (map formal_anchor fs) ++ anchors_in rest
more_formals_tokens [] ts rest h = ap anchors_in h
more_formals_tokens (f ∷ fs) ts rest (x, y, e, h, k) =
    ap anchors_in e ∙ formal_tokens f x y h ∙ ap (λ us. t.Name f.name ∷ us) (more_formals_tokens fs y rest k)

formals_tokens : (fs : List Formal) (ts rest : List Token) → AreFormals fs ts rest → anchors_in ts ≡ map anchor_token (map formal_anchor fs) ++ anchors_in rest
formals_tokens [] ts rest h = absurd h
formals_tokens (f ∷ fs) ts rest (y, h, k) = formal_tokens f ts y h ∙ ap (λ us. t.Name f.name ∷ us) (more_formals_tokens fs y rest k)

-- objects that are given, from any place on
more_given_tokens : (n : List ℕ) (i : ℕ) (os : List (List ℕ)) (ts rest : List Token) → AreMoreNames os ts rest → anchors_in ts ≡ map anchor_token (given_anchors n i os) ++ anchors_in rest
more_given_tokens n i [] ts rest h = ap anchors_in h
more_given_tokens n i (x ∷ os) ts rest (y, e, h) = ap anchors_in e ∙ ap (λ us. t.Name x ∷ us) (more_given_tokens n (suc i) os y rest h)

given_tokens : (n : List ℕ) (i : ℕ) (os : List (List ℕ)) (ts rest : List Token) → AreGiven os ts rest → anchors_in ts ≡ map anchor_token (given_anchors n i os) ++ anchors_in rest
given_tokens n i [] ts rest h = absurd h
given_tokens n i (x ∷ os) ts rest (y, e, h) = ap anchors_in e ∙ ap (λ us. t.Name x ∷ us) (more_given_tokens n (suc i) os y rest h)

item_tokens : (i : Item) (ts rest : List Token) → IsItem i ts rest → anchors_in ts ≡ map anchor_token (item_anchors i) ++ anchors_in rest
item_tokens (Object x) ts rest (y, e, h) = ap anchors_in e ∙ ap (λ us. t.Name x.name ∷ us) (kind_tokens x.kind y rest h)
item_tokens (Client c) ts rest (y, e, h) =
    ap anchors_in e ∙ ap (λ us. t.Name c.name ∷ us) (blocks_tokens c.blocks y (t.CloseBrace ∷ rest) h)
item_tokens (Template c) ts rest (x, y, e, f, h) =
    ap anchors_in e
    ∙ ap (λ us. t.Name c.name ∷ us) (joined (map formal_anchor c.formals) (blocks_anchors c.blocks) (anchors_in x) (anchors_in y) (anchors_in rest)
    (formals_tokens c.formals x (t.CloseParen ∷ t.OpenBrace ∷ y) f) (blocks_tokens c.blocks y (t.CloseBrace ∷ rest) h))
item_tokens (Started c) ts rest (x, e, h) =
    ap anchors_in e ∙ ap (λ us. t.Name c.name ∷ t.Name c.template ∷ us) (given_tokens c.template 0 c.objects x (t.CloseParen ∷ rest) h)

items_tokens : (is : List Item) (ts rest : List Token) → AreItems is ts rest → anchors_in ts ≡ map anchor_token (script_anchors is) ++ anchors_in rest
items_tokens [] ts rest h = ap anchors_in h
items_tokens (i ∷ is) ts rest (x, h, k) =
    joined (item_anchors i) (script_anchors is) (anchors_in ts) (anchors_in x) (anchors_in rest) (item_tokens i ts x h) (items_tokens is x rest k)

pub anchors_are_tokens : (items : List Item) (ts : List Token) → IsScript items ts → anchors_in ts ≡ map anchor_token (script_anchors items)
anchors_are_tokens items ts h = items_tokens items ts [] h ∙ append-nil (map anchor_token (script_anchors items))
