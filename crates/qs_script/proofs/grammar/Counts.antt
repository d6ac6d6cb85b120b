-- A tree takes at least one token for each of its statements, and what follows a part of it is shorter than what the
-- part began with. The proof that all scripts are read needs this for the end of its loops, and so does the bound on
-- statements by bytes. It goes by induction on the tree.
use Rattle.std.proofs.Common.{ℕ, zero, suc, ◌<◌, ◌≤◌, ◌+◌, inl, inr, List, [], ◌∷◌, length, arith}
use Rattle.qs_script.specs.Types.{Token, Atom, Variable, Number, Expr, Plain, Binary, Test, Call, Block, KindText, Account, Formal, Item, Object, Client, Template, Started}
use Rattle.qs_script.specs.declared.tokens.token.Token.TheVariants as t
use Rattle.qs_script.specs.audit.tree.Tree.{Stmts, end, command, query, assign, choose, choose_else, again, leave}
use Rattle.qs_script.specs.tree.Views.{size_of}
use Rattle.qs_script.specs.tree.Sizes.{blocks_size, item_size, statements}
use Rattle.qs_script.specs.audit.grammar.Grammar.{IsAtom, AreMore, AreArgs, IsCall, operator_token, relation_token, IsExpr, IsTest, AreStmts, AreNames, AreSomeNames, IsBlock, AreBlocks, IsKind, IsFormal, AreMoreFormals, AreFormals, AreMoreNames, AreGiven, IsItem, AreItems}

pub atom_shorter : (a : Atom) (ts rest : List Token) → IsAtom a ts rest → length rest < length ts
atom_shorter (Variable n) ts rest h = rw h (omega arith)
atom_shorter (Number z) ts rest (n, inl (e, h)) = rw h (omega arith)
atom_shorter (Number z) ts rest (n, inr (e, h)) = rw h (omega arith)

more_shorter : (xs : List Atom) (ts rest : List Token) → AreMore xs ts rest → length rest ≤ length ts
more_shorter [] ts rest h = rw h (omega arith)
more_shorter (a ∷ xs) ts rest (x, y, e, h, k) = rw e (omega (arith, atom_shorter a x y h, more_shorter xs y rest k))

args_shorter : (xs : List Atom) (ts rest : List Token) → AreArgs xs ts rest → length rest ≤ length ts
args_shorter [] ts rest h = rw h (omega arith)
args_shorter (a ∷ xs) ts rest (y, h, k) = omega (arith, atom_shorter a ts y h, more_shorter xs y rest k)

pub call_shorter : (c : Call) (ts rest : List Token) → IsCall c ts rest → length rest < length ts
call_shorter c ts rest (x, e, h) = rw e (omega (arith, args_shorter c.args x (t.CloseParen ∷ rest) h))

pub expr_shorter : (e : Expr) (ts rest : List Token) → IsExpr e ts rest → length rest < length ts
expr_shorter (Plain a) ts rest h = atom_shorter a ts rest h
expr_shorter (Binary a op b) ts rest (x, h, k) =
    omega (arith, atom_shorter a ts (operator_token op ∷ x) h, atom_shorter b x rest k)

pub test_shorter : (c : Test) (ts rest : List Token) → IsTest c ts rest → length rest < length ts
test_shorter c ts rest (x, h, k) =
    omega (arith, atom_shorter c.left ts (relation_token c.relation ∷ x) h, atom_shorter c.right x rest k)

pub stmts_counted : (levels : ℕ) (s : Stmts) (ts rest : List Token) → AreStmts levels s ts rest → size_of s + length rest ≤ length ts
stmts_counted levels end ts rest h = rw h (omega arith)
stmts_counted zero _ ts rest h = absurd h
stmts_counted (suc n) (command c more) ts rest (y, h, k) =
    omega (arith, call_shorter c ts (t.Semicolon ∷ y) h, stmts_counted (suc n) more y rest k)
stmts_counted (suc n) (query v c more) ts rest (x, y, e, h, k) =
    rw e (omega (arith, call_shorter c x (t.Semicolon ∷ y) h, stmts_counted (suc n) more y rest k))
stmts_counted (suc n) (assign v c more) ts rest (x, y, e, h, k) =
    rw e (omega (arith, expr_shorter c x (t.Semicolon ∷ y) h, stmts_counted (suc n) more y rest k))
stmts_counted (suc n) (choose c first more) ts rest (x, y, z, e, h, k, m) =
    rw e (omega (arith, test_shorter c x (t.OpenBrace ∷ y) h, stmts_counted n first y (t.CloseBrace ∷ z) k, stmts_counted (suc n) more z rest m))
stmts_counted (suc n) (choose_else c first other more) ts rest (x, y, z, w, e, h, k, l, m) =
    rw e (omega (arith, test_shorter c x (t.OpenBrace ∷ y) h, stmts_counted n first y (t.CloseBrace ∷ t.Else ∷ t.OpenBrace ∷ z) k, stmts_counted n other z (t.CloseBrace ∷ w) l, stmts_counted (suc n) more w rest m))
stmts_counted (suc n) (again k body more) ts rest (x, y, e, h, m) =
    rw e (omega (arith, stmts_counted n body x (t.CloseBrace ∷ y) h, stmts_counted (suc n) more y rest m))
stmts_counted (suc n) (leave more) ts rest (y, e, k) = rw e (omega (arith, stmts_counted (suc n) more y rest k))

names_shorter : (ns : List (List ℕ)) (ts rest : List Token) → AreNames ns ts rest → length rest ≤ length ts
names_shorter [] ts rest h = rw h (omega arith)
names_shorter (n ∷ ns) ts rest (x, e, h) = rw e (omega (arith, names_shorter ns x rest h))

some_names_shorter : (ns : List (List ℕ)) (ts rest : List Token) → AreSomeNames ns ts rest → length rest ≤ length ts
some_names_shorter [] ts rest h = absurd h
some_names_shorter (n ∷ ns) ts rest h = names_shorter (n ∷ ns) ts rest h

pub block_counted : (b : Block) (ts rest : List Token) → IsBlock b ts rest → size_of b.body + length rest < length ts
block_counted b ts rest (x, y, e, h, k) =
    rw e (omega (arith, some_names_shorter b.reserved x (t.OpenBrace ∷ y) h, stmts_counted 9 b.body y (t.CloseBrace ∷ rest) k))

pub blocks_counted : (bs : List Block) (ts rest : List Token) → AreBlocks bs ts rest → blocks_size bs + length rest ≤ length ts
blocks_counted [] ts rest h = rw h (omega arith)
blocks_counted (b ∷ bs) ts rest (x, h, k) = omega (arith, block_counted b ts x h, blocks_counted bs x rest k)

kind_shorter : (k : KindText) (ts rest : List Token) → IsKind k ts rest → length rest ≤ length ts
kind_shorter (Account n) ts rest h = rw h (omega arith)
kind_shorter _ ts rest h = rw h (omega arith)

pub formal_shorter : (f : Formal) (ts rest : List Token) → IsFormal f ts rest → length rest < length ts
formal_shorter f ts rest h = rw h (omega arith)

more_formals_shorter : (fs : List Formal) (ts rest : List Token) → AreMoreFormals fs ts rest → length rest ≤ length ts
more_formals_shorter [] ts rest h = rw h (omega arith)
more_formals_shorter (f ∷ fs) ts rest (x, y, e, h, k) = rw e (omega (arith, formal_shorter f x y h, more_formals_shorter fs y rest k))

formals_shorter : (fs : List Formal) (ts rest : List Token) → AreFormals fs ts rest → length rest ≤ length ts
formals_shorter [] ts rest h = absurd h
formals_shorter (f ∷ fs) ts rest (y, h, k) = omega (arith, formal_shorter f ts y h, more_formals_shorter fs y rest k)

more_names_shorter : (ns : List (List ℕ)) (ts rest : List Token) → AreMoreNames ns ts rest → length rest ≤ length ts
more_names_shorter [] ts rest h = rw h (omega arith)
more_names_shorter (n ∷ ns) ts rest (x, e, h) = rw e (omega (arith, more_names_shorter ns x rest h))

given_shorter : (ns : List (List ℕ)) (ts rest : List Token) → AreGiven ns ts rest → length rest ≤ length ts
given_shorter [] ts rest h = absurd h
given_shorter (n ∷ ns) ts rest (y, e, h) = rw e (omega (arith, more_names_shorter ns y rest h))

pub item_counted : (i : Item) (ts rest : List Token) → IsItem i ts rest → item_size i + length rest < length ts
item_counted (Object x) ts rest (y, e, h) = rw e (omega (arith, kind_shorter x.kind y rest h))
item_counted (Client c) ts rest (y, e, h) = rw e (omega (arith, blocks_counted c.blocks y (t.CloseBrace ∷ rest) h))
item_counted (Template c) ts rest (x, y, e, f, h) =
    rw e (omega (arith, formals_shorter c.formals x (t.CloseParen ∷ t.OpenBrace ∷ y) f, blocks_counted c.blocks y (t.CloseBrace ∷ rest) h))
item_counted (Started c) ts rest (x, e, h) = rw e (omega (arith, given_shorter c.objects x (t.CloseParen ∷ rest) h))

pub items_counted : (is : List Item) (ts rest : List Token) → AreItems is ts rest → statements is + length rest ≤ length ts
items_counted [] ts rest h = rw h (omega arith)
items_counted (i ∷ is) ts rest (x, h, k) = omega (arith, item_counted i ts x h, items_counted is x rest k)
