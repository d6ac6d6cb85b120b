-- Whatever is a script by the grammar is read. The promise of the reader that it refuses no script stands on it. It
-- goes by induction on the tree; the first token of each part tells it from all others, and each part takes a token, so
-- that the loops have steps enough.
use Rattle.std.proofs.Common.{◌≡◌, ℕ, zero, suc, ◌<◌, inl, inr, List, [], ◌∷◌, length, refl, ap, ◌∙◌, arith, Option, Some, None, Ok}
use Rattle.qs_script.specs.Types.{Token, Atom, Variable, Number, Operator, Relation, Expr, Plain, Binary, Test, Call, Block, KindText, Account, KindWord, Formal, Item, Object, Client, Template, Started}
use Rattle.qs_script.specs.declared.tokens.token.Token.TheVariants as t
use Rattle.qs_script.specs.declared.tree.tree.Operator.TheVariants as o
use Rattle.qs_script.specs.declared.tree.tree.Relation.TheVariants as r
use Rattle.qs_script.specs.declared.tree.tree.KindWord.TheVariants as kind
use Rattle.qs_script.specs.audit.tree.Tree.{Stmts, end, command, query, assign, choose, choose_else, again, leave}
use Rattle.qs_script.specs.grammar.Reading.{Read, run, one, list_loop, open_brace_at, close_brace_at, close_paren_at, atom_at, further_at, more_loop, args_at, call_at, operator_at, relation_at, expr_at, test_at, assign_at, assigned_at, other_at, stmt_at, body_loop, names_loop, name_at, separate_at, blocks_loop, kind_at, kind_word_at, formal_at, further_formal_at, formals_loop, formals_at, further_name_at, given_loop, given_at, item_at, end_at, items_loop}
use Rattle.qs_script.specs.audit.grammar.Grammar.{IsAtom, AreMore, AreArgs, IsCall, operator_token, relation_token, IsExpr, IsTest, AreStmts, AreNames, AreSomeNames, IsBlock, AreBlocks, IsKind, kind_token, IsFormal, AreMoreFormals, AreFormals, AreMoreNames, AreGiven, IsItem, AreItems, IsScript}
use Rattle.qs_script.proofs.grammar.Loops.{Runs, run_is, runs_stop, runs_element, before_end}
use Rattle.qs_script.proofs.grammar.Counts.{atom_shorter, call_shorter, expr_shorter, test_shorter, stmts_counted, block_counted, formal_shorter, item_counted}

atom_complete : (a : Atom) (ts rest : List Token) → IsAtom a ts rest → atom_at ts ≡ Ok (a, rest)
atom_complete (Variable n) ts rest h = rw h refl
atom_complete (Number z) ts rest (n, inl (e, h)) = rw (h, e) refl
atom_complete (Number z) ts rest (n, inr (e, h)) = rw (h, e) refl

atom_opens : (a : Atom) (ts rest : List Token) → IsAtom a ts rest → close_paren_at ts ≡ None
atom_opens (Variable n) ts rest h = rw h refl
atom_opens (Number z) ts rest (n, inl (e, h)) = rw h refl
atom_opens (Number z) ts rest (n, inr (e, h)) = rw h refl

-- lists of what is read one by one
module _ {A : Type 0} (stop : List Token → Option (List Token)) (element : List Token → Read A) where
  list_element : (ts : List Token) (a : A) (y : List Token) (xs : List A) (rest : List Token) → stop ts ≡ None → element ts ≡ Ok (a, y) → length y < length ts → Runs (list_loop stop element) y (Ok (xs, rest)) → Runs (list_loop stop element) ts (Ok (a ∷ xs, rest))
  list_element ts a y xs rest e s less h =
      runs_element (list_loop stop element) ts (a ∷ [], y) (Ok (xs, rest)) e (ap one s) less h

-- arguments
more_complete : (xs : List Atom) (ts rest : List Token) → AreMore xs ts (t.CloseParen ∷ rest) → Runs more_loop ts (Ok (xs, rest))
more_complete [] ts rest h = runs_stop more_loop ts rest (rw h refl)
more_complete (a ∷ xs) ts rest (x, y, e, h, k) =
    list_element close_paren_at further_at ts a y xs rest (rw e refl) (rw (e, atom_complete a x y h) refl) (rw e (omega (arith, atom_shorter a x y h))) (more_complete xs y rest k)

args_complete : (xs : List Atom) (ts rest : List Token) → AreArgs xs ts (t.CloseParen ∷ rest) → args_at ts ≡ Ok (xs, rest)
args_complete [] ts rest h = rw h refl
args_complete (a ∷ xs) ts rest (y, h, k) =
    rw (atom_opens a ts y h, atom_complete a ts y h, run_is more_loop y (Ok (xs, rest)) (more_complete xs y rest k)) refl

-- a request is read after its object and dot
call_complete : (c : Call) (ts rest : List Token) → IsCall c ts rest → (us : List Token) × (ts ≡ t.Name c.object ∷ t.Dot ∷ us) × call_at c.object us ≡ Ok (c, rest)
call_complete c ts rest (x, e, h) = (t.Name c.op ∷ t.OpenParen ∷ x, e, rw (args_complete c.args x rest h) refl)

-- expressions
operator_complete : (op : Operator) (ts : List Token) → operator_at (operator_token op ∷ ts) ≡ Some (op, ts)
operator_complete o.Plus ts = refl
operator_complete _ ts = refl

relation_complete : (rel : Relation) (ts : List Token) → relation_at (relation_token rel ∷ ts) ≡ Ok (rel, ts)
relation_complete r.Equal ts = refl
relation_complete _ ts = refl

expr_complete : (e : Expr) (ts rest : List Token) → IsExpr e ts (t.Semicolon ∷ rest) → expr_at ts ≡ Ok (e, t.Semicolon ∷ rest)
expr_complete (Plain a) ts rest h = rw (atom_complete a ts (t.Semicolon ∷ rest) h) refl
expr_complete (Binary a op b) ts rest (x, h, k) =
    rw (atom_complete a ts (operator_token op ∷ x) h, operator_complete op x, atom_complete b x (t.Semicolon ∷ rest) k) refl

test_complete : (c : Test) (ts rest : List Token) → IsTest c ts rest → test_at ts ≡ Ok (c, rest)
test_complete c ts rest (x, h, k) =
    rw (atom_complete c.left ts (relation_token c.relation ∷ x) h, relation_complete c.relation x, atom_complete c.right x rest k) refl

-- an expression is no request
atom_assigned : (v : List ℕ) (a : Atom) (ts rest : List Token) → IsAtom a ts rest → ((m : List ℕ) → assigned_at v (t.Name m ∷ rest) ≡ assign_at v (t.Name m ∷ rest)) → assigned_at v ts ≡ assign_at v ts
atom_assigned v (Variable n) ts rest h f = rw h (f n)
atom_assigned v (Number z) ts rest (n, inl (e, h)) f = rw h refl
atom_assigned v (Number z) ts rest (n, inr (e, h)) f = rw h refl

operator_assigned : (v : List ℕ) (op : Operator) (ts : List Token) (m : List ℕ) → assigned_at v (t.Name m ∷ operator_token op ∷ ts) ≡ assign_at v (t.Name m ∷ operator_token op ∷ ts)
operator_assigned v o.Plus ts m = refl
operator_assigned v _ ts m = refl

expr_assigned : (v : List ℕ) (e : Expr) (ts rest : List Token) → IsExpr e ts (t.Semicolon ∷ rest) → assigned_at v ts ≡ assign_at v ts
expr_assigned v (Plain a) ts rest h = atom_assigned v a ts (t.Semicolon ∷ rest) h (λ m. refl)
expr_assigned v (Binary a op b) ts rest (x, h, k) = atom_assigned v a ts (operator_token op ∷ x) h (operator_assigned v op x)

-- statements, whose bodies are read by inner
module _ (inner : List Token → Read Stmts) where
  command_complete : (c : Call) (ts rest : List Token) → IsCall c ts (t.Semicolon ∷ rest) → stmt_at inner ts ≡ Ok (command c end, rest)
  command_complete c ts rest h =
      let (us, e, q) = call_complete c ts (t.Semicolon ∷ rest) h in rw (e, q) refl

  query_complete : (v : List ℕ) (c : Call) (ts x rest : List Token) → ts ≡ t.Name v ∷ t.Assign ∷ x → IsCall c x (t.Semicolon ∷ rest) → stmt_at inner ts ≡ Ok (query v c end, rest)
  query_complete v c ts x rest p h =
      let (us, e, q) = call_complete c x (t.Semicolon ∷ rest) h in rw (p, e, q) refl

  assign_complete : (v : List ℕ) (c : Expr) (ts x rest : List Token) → ts ≡ t.Name v ∷ t.Assign ∷ x → IsExpr c x (t.Semicolon ∷ rest) → stmt_at inner ts ≡ Ok (assign v c end, rest)
  assign_complete v c ts x rest p h =
      ap (stmt_at inner) p ∙ expr_assigned v c x rest h ∙ rw (expr_complete c x rest h) refl

  choose_complete : (c : Test) (first : Stmts) (ts x y z : List Token) → ts ≡ t.If ∷ x → IsTest c x (t.OpenBrace ∷ y) → inner y ≡ Ok (first, z) → other_at inner z ≡ Ok (None, z) → stmt_at inner ts ≡ Ok (choose c first end, z)
  choose_complete c first ts x y z e h k l = rw (e, test_complete c x (t.OpenBrace ∷ y) h, k, l) refl

  choose_else_complete : (c : Test) (first other : Stmts) (ts x y z w : List Token) → ts ≡ t.If ∷ x → IsTest c x (t.OpenBrace ∷ y) → inner y ≡ Ok (first, t.Else ∷ t.OpenBrace ∷ z) → inner z ≡ Ok (other, w) → stmt_at inner ts ≡ Ok (choose_else c first other end, w)
  choose_else_complete c first other ts x y z w e h k l = rw (e, test_complete c x (t.OpenBrace ∷ y) h, k, l) refl

  -- what follows an if without else begins with no else
  no_else : (levels : ℕ) (s : Stmts) (ts rest : List Token) → AreStmts levels s ts (t.CloseBrace ∷ rest) → other_at inner ts ≡ Ok (None, ts)
  no_else levels end ts rest h = rw h refl
  no_else zero _ ts rest h = absurd h
  no_else (suc n) (command c more) ts rest (y, (x, e, h), k) = rw e refl
  no_else (suc n) (query v c more) ts rest (x, y, e, h, k) = rw e refl
  no_else (suc n) (assign v c more) ts rest (x, y, e, h, k) = rw e refl
  no_else (suc n) (choose c first more) ts rest (x, y, z, e, h, k, m) = rw e refl
  no_else (suc n) (choose_else c first other more) ts rest (x, y, z, w, e, h, k, l, m) = rw e refl
  no_else (suc n) (again k body more) ts rest (x, y, e, h, m) = rw e refl
  no_else (suc n) (leave more) ts rest (y, e, k) = rw e refl

call_opens : (c : Call) (ts rest : List Token) → IsCall c ts rest → close_brace_at ts ≡ None
call_opens c ts rest (x, e, h) = rw e refl

-- statements before a closing brace are read
body_complete : (levels : ℕ) (s : Stmts) (ts rest : List Token) → AreStmts levels s ts (t.CloseBrace ∷ rest) → Runs (body_loop levels) ts (Ok (s, rest))
body_complete levels end ts rest h = runs_stop (body_loop levels) ts rest (rw h refl)
body_complete zero _ ts rest h = absurd h
body_complete (suc n) (command c more) ts rest (y, h, k) =
    runs_element (body_loop (suc n)) ts (command c end, y) (Ok (more, rest)) (call_opens c ts (t.Semicolon ∷ y) h)
    (command_complete (run (body_loop n)) c ts y h) (omega (arith, call_shorter c ts (t.Semicolon ∷ y) h)) (body_complete (suc n) more y rest k)
body_complete (suc n) (query v c more) ts rest (x, y, e, h, k) =
    runs_element (body_loop (suc n)) ts (query v c end, y) (Ok (more, rest)) (rw e refl)
    (query_complete (run (body_loop n)) v c ts x y e h) (rw e (omega (arith, call_shorter c x (t.Semicolon ∷ y) h))) (body_complete (suc n) more y rest k)
body_complete (suc n) (assign v c more) ts rest (x, y, e, h, k) =
    runs_element (body_loop (suc n)) ts (assign v c end, y) (Ok (more, rest)) (rw e refl)
    (assign_complete (run (body_loop n)) v c ts x y e h) (rw e (omega (arith, expr_shorter c x (t.Semicolon ∷ y) h))) (body_complete (suc n) more y rest k)
body_complete (suc n) (choose c first more) ts rest (x, y, z, e, h, k, m) =
    runs_element (body_loop (suc n)) ts (choose c first end, z) (Ok (more, rest)) (rw e refl)
    (choose_complete (run (body_loop n)) c first ts x y z e h (run_is (body_loop n) y (Ok (first, z)) (body_complete n first y z k)) (no_else (run (body_loop n)) (suc n) more z rest m))
    (rw e (omega (arith, test_shorter c x (t.OpenBrace ∷ y) h, stmts_counted n first y (t.CloseBrace ∷ z) k))) (body_complete (suc n) more z rest m)
body_complete (suc n) (choose_else c first other more) ts rest (x, y, z, w, e, h, k, l, m) =
    runs_element (body_loop (suc n)) ts (choose_else c first other end, w) (Ok (more, rest)) (rw e refl)
    (choose_else_complete (run (body_loop n)) c first other ts x y z w e h (run_is (body_loop n) y (Ok (first, t.Else ∷ t.OpenBrace ∷ z)) (body_complete n first y (t.Else ∷ t.OpenBrace ∷ z) k)) (run_is (body_loop n) z (Ok (other, w)) (body_complete n other z w l)))
    (rw e (omega (arith, test_shorter c x (t.OpenBrace ∷ y) h, stmts_counted n first y (t.CloseBrace ∷ t.Else ∷ t.OpenBrace ∷ z) k, stmts_counted n other z (t.CloseBrace ∷ w) l))) (body_complete (suc n) more w rest m)
body_complete (suc n) (again k body more) ts rest (x, y, e, h, m) =
    runs_element (body_loop (suc n)) ts (again k body end, y) (Ok (more, rest)) (rw e refl)
    (rw (e, run_is (body_loop n) x (Ok (body, y)) (body_complete n body x y h)) refl)
    (rw e (omega (arith, stmts_counted n body x (t.CloseBrace ∷ y) h))) (body_complete (suc n) more y rest m)
body_complete (suc n) (leave more) ts rest (y, e, k) =
    runs_element (body_loop (suc n)) ts (leave end, y) (Ok (more, rest)) (rw e refl) (rw e refl) (rw e (omega arith)) (body_complete (suc n) more y rest k)

-- blocks and items
names_complete : (ns : List (List ℕ)) (ts rest : List Token) → AreNames ns ts (t.OpenBrace ∷ rest) → Runs names_loop ts (Ok (ns, rest))
names_complete [] ts rest h = runs_stop names_loop ts rest (rw h refl)
names_complete (n ∷ ns) ts rest (x, e, h) =
    list_element open_brace_at name_at ts n x ns rest (rw e refl) (rw e refl) (rw e (omega arith)) (names_complete ns x rest h)

block_whole : (ns : List (List ℕ)) (body : Stmts) (ts x y rest : List Token) → ts ≡ t.Separate ∷ x → AreSomeNames ns x (t.OpenBrace ∷ y) → AreStmts 9 body y (t.CloseBrace ∷ rest) → separate_at ts ≡ Ok (record { reserved = ns; body = body }, rest)
block_whole [] body ts x y rest e h k = absurd h
block_whole (n ∷ ns) body ts x y rest e (u, q, h) k =
    rw (e, q, run_is names_loop u (Ok (ns, y)) (names_complete ns u y h), run_is (body_loop 9) y (Ok (body, rest)) (body_complete 9 body y rest k)) refl

block_complete : (b : Block) (ts rest : List Token) → IsBlock b ts rest → separate_at ts ≡ Ok (b, rest)
block_complete b ts rest (x, y, e, h, k) = block_whole b.reserved b.body ts x y rest e h k

block_opens : (b : Block) (ts rest : List Token) → IsBlock b ts rest → close_brace_at ts ≡ None
block_opens b ts rest (x, y, e, h, k) = rw e refl

blocks_complete : (bs : List Block) (ts rest : List Token) → AreBlocks bs ts (t.CloseBrace ∷ rest) → Runs blocks_loop ts (Ok (bs, rest))
blocks_complete [] ts rest h = runs_stop blocks_loop ts rest (rw h refl)
blocks_complete (b ∷ bs) ts rest (x, h, k) =
    list_element close_brace_at separate_at ts b x bs rest (block_opens b ts x h) (block_complete b ts x h) (omega (arith, block_counted b ts x h)) (blocks_complete bs x rest k)

kind_complete : (k : KindText) (ts rest : List Token) → IsKind k ts rest → kind_at ts ≡ Ok (k, rest)
kind_complete (Account n) ts rest h = rw h refl
kind_complete _ ts rest h = rw h refl

-- formals, and objects that are given
kind_word_complete : (k : KindWord) (ts : List Token) → kind_word_at (kind_token k ∷ ts) ≡ Ok (k, ts)
kind_word_complete kind.Account ts = refl
kind_word_complete _ ts = refl

formal_complete : (f : Formal) (ts rest : List Token) → IsFormal f ts rest → formal_at ts ≡ Ok (f, rest)
formal_complete f ts rest h = rw (h, kind_word_complete f.kind (t.Name f.name ∷ rest)) refl

more_formals_complete : (fs : List Formal) (ts rest : List Token) → AreMoreFormals fs ts (t.CloseParen ∷ rest) → Runs formals_loop ts (Ok (fs, rest))
more_formals_complete [] ts rest h = runs_stop formals_loop ts rest (rw h refl)
more_formals_complete (f ∷ fs) ts rest (x, y, e, h, k) =
    list_element close_paren_at further_formal_at ts f y fs rest (rw e refl) (rw (e, formal_complete f x y h) refl) (rw e (omega (arith, formal_shorter f x y h))) (more_formals_complete fs y rest k)

formals_complete : (fs : List Formal) (ts rest : List Token) → AreFormals fs ts (t.CloseParen ∷ rest) → formals_at ts ≡ Ok (fs, rest)
formals_complete [] ts rest h = absurd h
formals_complete (f ∷ fs) ts rest (y, h, k) =
    rw (formal_complete f ts y h, run_is formals_loop y (Ok (fs, rest)) (more_formals_complete fs y rest k)) refl

more_names_complete : (ns : List (List ℕ)) (ts rest : List Token) → AreMoreNames ns ts (t.CloseParen ∷ rest) → Runs given_loop ts (Ok (ns, rest))
more_names_complete [] ts rest h = runs_stop given_loop ts rest (rw h refl)
more_names_complete (n ∷ ns) ts rest (x, e, h) =
    list_element close_paren_at further_name_at ts n x ns rest (rw e refl) (rw e refl) (rw e (omega arith)) (more_names_complete ns x rest h)

given_complete : (ns : List (List ℕ)) (ts rest : List Token) → AreGiven ns ts (t.CloseParen ∷ rest) → given_at ts ≡ Ok (ns, rest)
given_complete [] ts rest h = absurd h
given_complete (n ∷ ns) ts rest (y, e, h) = rw (e, run_is given_loop y (Ok (ns, rest)) (more_names_complete ns y rest h)) refl

item_complete : (i : Item) (ts rest : List Token) → IsItem i ts rest → item_at ts ≡ Ok (i, rest)
item_complete (Object x) ts rest (y, e, h) = rw (e, kind_complete x.kind y rest h) refl
item_complete (Client c) ts rest (y, e, h) =
    rw (e, run_is blocks_loop y (Ok (c.blocks, rest)) (blocks_complete c.blocks y rest h)) refl
item_complete (Template c) ts rest (x, y, e, f, h) =
    rw (e, formals_complete c.formals x (t.OpenBrace ∷ y) f, run_is blocks_loop y (Ok (c.blocks, rest)) (blocks_complete c.blocks y rest h)) refl
item_complete (Started c) ts rest (x, e, h) = rw (e, given_complete c.objects x rest h) refl

items_runs : (is : List Item) (ts : List Token) → AreItems is ts [] → Runs items_loop ts (Ok (is, []))
items_runs [] ts h = runs_stop items_loop ts [] (rw h refl)
items_runs (i ∷ is) ts (x, h, k) =
    list_element end_at item_at ts i x is [] (before_end ts (omega (arith, item_counted i ts x h))) (item_complete i ts x h) (omega (arith, item_counted i ts x h)) (items_runs is x k)

-- a script is read
pub items_complete : (is : List Item) (ts : List Token) → IsScript is ts → run items_loop ts ≡ Ok (is, [])
items_complete is ts h = run_is items_loop ts (Ok (is, [])) (items_runs is ts h)
