-- Whatever the definition of the reader makes of a list of tokens is a script by the grammar. The promise of the reader
-- that its result belongs to the text stands on `items_sound`. There is a lemma for each construct of the language; the
-- lists go by induction on the steps of their loop, and bodies by induction on the levels that are left.
use Rattle.std.proofs.Common.{◌≡◌, ℕ, zero, suc, inl, inr, List, [], ◌∷◌, ◌++◌, length, refl, ap, sym, ◌∙◌, Option, Some, None, Result, Ok, Err, subst, neg_ℤ, pos}
use Rattle.qs_script.specs.Types.{Token, Atom, Variable, Number, Operator, Relation, Expr, Binary, Test, Call, Block, KindText, Account, Buffer, Grid, KindWord, Formal, Item}
use Rattle.qs_script.specs.declared.tokens.token.Token.TheVariants as t
use Rattle.qs_script.specs.declared.tree.tree.Operator.TheVariants as o
use Rattle.qs_script.specs.declared.tree.tree.Relation.TheVariants as r
use Rattle.qs_script.specs.declared.tree.tree.KindWord.TheVariants as kind
use Rattle.qs_script.specs.audit.tree.Tree.{Stmts, end, command, query, assign, again, leave}
use Rattle.qs_script.specs.tree.Tree.{join_statements}
use Rattle.qs_script.specs.grammar.Reading.{Read, ◌>>=◌, due, Loop, after, stop_or, then_more, many_at, run, one, list_loop, name_at, number_at, open_brace_at, close_brace_at, open_paren_at, close_paren_at, comma_at, semicolon_at, negative_at, atom_at, further_at, more_loop, first_arg, args_at, call_at, operator_at, relation_at, expr_with, expr_at, test_of, test_at, query_at, assign_at, assigned_at, command_at, named_at, braced_at, other_at, choice_of, choice_at, repeat_at, stmt_at, body_loop, names_loop, block_of, block_at, separate_at, blocks_loop, kind_at, object_of, client_of, object_called_at, object_at, own_blocks_at, formal_of, kind_word_at, formal_at, further_formal_at, formals_loop, formals_at, further_name_at, given_loop, given_at, template_of, started_of, template_blocks_at, template_called_at, template_at, started_with_at, started_at, client_called_at, client_at, item_at, end_at, items_loop}
use Rattle.qs_script.specs.tree.Tree.{call_of}
use Rattle.qs_script.specs.audit.grammar.Grammar.{IsAtom, AreMore, AreArgs, IsCall, operator_token, relation_token, IsExpr, IsTest, AreStmts, AreNames, AreSomeNames, IsBlock, AreBlocks, IsKind, kind_token, IsFormal, AreMoreFormals, AreFormals, AreMoreNames, AreGiven, IsItem, AreItems, IsScript}

bind_some : {A B : Type 0} (r : Result A ℕ) (f : A → Result B ℕ) (y : B) → (r >>= f) ≡ Ok y → (x : A) × (r ≡ Ok x) × f x ≡ Ok y
bind_some (Err left) f y p = cc
bind_some (Ok x) f y p = (x, refl, p)

-- the last step of what is read
bind_last : {A B : Type 0} (r : Result A ℕ) (f : A → B) (y : B) → (r >>= λ x. Ok (f x)) ≡ Ok y → (x : A) × (r ≡ Ok x) × f x ≡ y
bind_last (Err left) f y p = cc
bind_last (Ok x) f y p = (x, refl, cc)

abbrev got : {A : Type 0} → A → Result A ℕ
got x = Ok x

ok_inj : {A : Type 0} (x y : A) → got x ≡ got y → x ≡ y
ok_inj x y p = cc

-- what has to stand there stands there
due_some : (ts : List Token) (found : Option (List Token)) (rest : List Token) → due ts found ≡ Ok rest → found ≡ Some rest
due_some ts None rest p = cc
due_some ts (Some x) rest p = let e : x ≡ rest = cc in ap Some e

-- single tokens
name_sound : (ts : List Token) (x : List ℕ × List Token) → name_at ts ≡ Ok x → ts ≡ t.Name x.0 ∷ x.1
name_sound (t.Name n ∷ ts) x p = let e : (n, ts) ≡ x = cc in ap (λ y. t.Name y.0 ∷ y.1) e
name_sound _ x p = cc

number_sound : (ts : List Token) (x : ℕ × List Token) → number_at ts ≡ Ok x → ts ≡ t.Number x.0 ∷ x.1
number_sound (t.Number n ∷ ts) x p = let e : (n, ts) ≡ x = cc in ap (λ y. t.Number y.0 ∷ y.1) e
number_sound _ x p = cc

open_brace_sound : (ts rest : List Token) → open_brace_at ts ≡ Some rest → ts ≡ t.OpenBrace ∷ rest
open_brace_sound (t.OpenBrace ∷ ts) rest p = cc
open_brace_sound _ rest p = cc

close_brace_sound : (ts rest : List Token) → close_brace_at ts ≡ Some rest → ts ≡ t.CloseBrace ∷ rest
close_brace_sound (t.CloseBrace ∷ ts) rest p = cc
close_brace_sound _ rest p = cc

open_paren_sound : (ts rest : List Token) → open_paren_at ts ≡ Ok rest → ts ≡ t.OpenParen ∷ rest
open_paren_sound (t.OpenParen ∷ ts) rest p = cc
open_paren_sound _ rest p = cc

close_paren_sound : (ts rest : List Token) → close_paren_at ts ≡ Some rest → ts ≡ t.CloseParen ∷ rest
close_paren_sound (t.CloseParen ∷ ts) rest p = cc
close_paren_sound _ rest p = cc

comma_sound : (ts rest : List Token) → comma_at ts ≡ Ok rest → ts ≡ t.Comma ∷ rest
comma_sound (t.Comma ∷ ts) rest p = cc
comma_sound _ rest p = cc

semicolon_sound : (ts rest : List Token) → semicolon_at ts ≡ Ok rest → ts ≡ t.Semicolon ∷ rest
semicolon_sound (t.Semicolon ∷ ts) rest p = cc
semicolon_sound _ rest p = cc

operator_sound : (ts : List Token) (x : Operator × List Token) → operator_at ts ≡ Some x → ts ≡ operator_token x.0 ∷ x.1
operator_sound (t.Plus ∷ ts) x p = let e : (o.Plus, ts) ≡ x = cc in ap (λ y. operator_token y.0 ∷ y.1) e
operator_sound (t.Minus ∷ ts) x p = let e : (o.Minus, ts) ≡ x = cc in ap (λ y. operator_token y.0 ∷ y.1) e
operator_sound (t.Times ∷ ts) x p = let e : (o.Times, ts) ≡ x = cc in ap (λ y. operator_token y.0 ∷ y.1) e
operator_sound _ x p = cc

relation_sound : (ts : List Token) (x : Relation × List Token) → relation_at ts ≡ Ok x → ts ≡ relation_token x.0 ∷ x.1
relation_sound (t.Equal ∷ ts) x p = let e : (r.Equal, ts) ≡ x = cc in ap (λ y. relation_token y.0 ∷ y.1) e
relation_sound (t.Unequal ∷ ts) x p = let e : (r.Unequal, ts) ≡ x = cc in ap (λ y. relation_token y.0 ∷ y.1) e
relation_sound (t.Less ∷ ts) x p = let e : (r.Less, ts) ≡ x = cc in ap (λ y. relation_token y.0 ∷ y.1) e
relation_sound (t.AtMost ∷ ts) x p = let e : (r.AtMost, ts) ≡ x = cc in ap (λ y. relation_token y.0 ∷ y.1) e
relation_sound (t.Greater ∷ ts) x p = let e : (r.Greater, ts) ≡ x = cc in ap (λ y. relation_token y.0 ∷ y.1) e
relation_sound (t.AtLeast ∷ ts) x p = let e : (r.AtLeast, ts) ≡ x = cc in ap (λ y. relation_token y.0 ∷ y.1) e
relation_sound _ x p = cc

negative_some : (r : Read ℕ) (x : Atom × List Token) → negative_at r ≡ Ok x → (n : ℕ × List Token) × (r ≡ Ok n) × (Number (neg_ℤ (pos n.0)), n.1) ≡ x
negative_some (Err left) x p = cc
negative_some (Ok n) x p = (n, refl, ok_inj _ x p)

atom_sound : (ts : List Token) (x : Atom × List Token) → atom_at ts ≡ Ok x → IsAtom x.0 ts x.1
atom_sound (t.Name n ∷ ts) x p =
    let e : (Variable n, ts) ≡ x = cc in subst (λ y. IsAtom y.0 (t.Name n ∷ ts) y.1) e refl
atom_sound (t.Number n ∷ ts) x p =
    let e : (Number (pos n), ts) ≡ x = cc in subst (λ y. IsAtom y.0 (t.Number n ∷ ts) y.1) e (n, inl (refl, refl))
atom_sound (t.Minus ∷ ts) x p =
    let (n, q, e) = negative_some (number_at ts) x p in
    subst (λ y. IsAtom y.0 (t.Minus ∷ ts) y.1) e (n.0, inr (refl, ap (λ us. t.Minus ∷ us) (number_sound ts n q)))
atom_sound _ x p = cc

-- lists: what ends them, and what an element goes before
module _ {M : Type 0} (loop : Loop M) (Good : M → List Token → List Token → Type 0)
    (ends : (ts rest : List Token) → loop.stop ts ≡ Some rest → Good loop.none ts rest)
    (goes : (ts : List Token) (x : M × List Token) (m : M) (rest : List Token) → loop.element ts ≡ Ok x → Good m x.1 rest → Good (loop.join x.0 m) ts rest) where
  after_some : (m : M) (read : Read M) (x : M × List Token) → after loop m read ≡ Ok x → (y : M × List Token) × (read ≡ Ok y) × (loop.join m y.0, y.1) ≡ x
  after_some m (Err left) x p = cc
  after_some m (Ok y) x p = (y, refl, ok_inj _ x p)

  more_sound : (ts : List Token) (element : Read M) (next : List Token → Read M) (x : M × List Token) → loop.element ts ≡ element → then_more loop element next ≡ Ok x → ((us : List Token) (y : M × List Token) → next us ≡ Ok y → Good y.0 us y.1) → Good x.0 ts x.1
  more_sound ts (Err left) next x e p ih = cc
  more_sound ts (Ok m) next x e p ih =
      let (y, q, s) = after_some m.0 (next m.1) x p in
      subst (λ z. Good z.0 ts z.1) s (goes ts m y.0 y.1 e (ih m.1 y q))

  step_sound : (ts : List Token) (stop : Option (List Token)) (next : List Token → Read M) (x : M × List Token) → loop.stop ts ≡ stop → stop_or loop stop (then_more loop (loop.element ts) next) ≡ Ok x → ((us : List Token) (y : M × List Token) → next us ≡ Ok y → Good y.0 us y.1) → Good x.0 ts x.1
  step_sound ts (Some rest) next x e p ih = subst (λ z. Good z.0 ts z.1) (ok_inj _ x p) (ends ts rest e)
  step_sound ts None next x e p ih = more_sound ts (loop.element ts) next x refl p ih

  many_sound : (n : ℕ) (ts : List Token) (x : M × List Token) → many_at loop n ts ≡ Ok x → Good x.0 ts x.1
  many_sound zero ts x p = cc
  many_sound (suc n) ts x p = step_sound ts (loop.stop ts) (many_at loop n) x refl p (many_sound n)

  run_sound : (ts : List Token) (x : M × List Token) → run loop ts ≡ Ok x → Good x.0 ts x.1
  unfolding run
  run_sound ts x p = many_sound (suc (length ts)) ts x p

module _ {A : Type 0} (stop : List Token → Option (List Token)) (element : List Token → Read A) (Good : List A → List Token → List Token → Type 0)
    (ends : (ts rest : List Token) → stop ts ≡ Some rest → Good [] ts rest)
    (goes : (ts : List Token) (x : A × List Token) (xs : List A) (rest : List Token) → element ts ≡ Ok x → Good xs x.1 rest → Good (x.0 ∷ xs) ts rest) where
  one_goes : (ts : List Token) (read : Read A) (x : List A × List Token) (xs : List A) (rest : List Token) → element ts ≡ read → one read ≡ Ok x → Good xs x.1 rest → Good (x.0 ++ xs) ts rest
  one_goes ts (Err left) x xs rest e p h = cc
  one_goes ts (Ok a) x xs rest e p h =
      let q : (a.0 ∷ [], a.1) ≡ x = ok_inj _ x p in
      subst (λ z. Good (z.0 ++ xs) ts rest) q (goes ts a xs rest e (subst (λ z. Good xs z.1 rest) (sym q) h))

  list_sound : (ts : List Token) (x : List A × List Token) → run (list_loop stop element) ts ≡ Ok x → Good x.0 ts x.1
  list_sound = run_sound (list_loop stop element) Good ends (λ ts x xs rest p h. one_goes ts (element ts) x xs rest refl p h)

  -- the elements after a first one
  list_after : (a : A) (ts : List Token) (x : List A × List Token) → after (list_loop stop element) (a ∷ []) (run (list_loop stop element) ts) ≡ Ok x → (y : List A × List Token) × Good y.0 ts y.1 × (a ∷ y.0, y.1) ≡ x
  list_after a ts x p =
      let (y, q, s) = after_some (list_loop stop element) Good ends (λ ts x xs rest p h. one_goes ts (element ts) x xs rest refl p h) (a ∷ []) (run (list_loop stop element) ts) x p in
      (y, list_sound ts y q, s)

-- arguments
further_goes : (ts : List Token) (x : Atom × List Token) (xs : List Atom) (rest : List Token) → further_at ts ≡ Ok x → AreMore xs x.1 (t.CloseParen ∷ rest) → AreMore (x.0 ∷ xs) ts (t.CloseParen ∷ rest)
further_goes ts x xs rest p h =
    let (u, q, s) = bind_some (comma_at ts) atom_at x p in (u, x.1, comma_sound ts u q, atom_sound u x s, h)

first_sound : (ts : List Token) (x : List Atom × List Token) → first_arg ts ≡ Ok x → AreArgs x.0 ts (t.CloseParen ∷ x.1)
first_sound ts x p =
    let (a, q, s) = bind_some (atom_at ts) (λ a. after more_loop (a.0 ∷ []) (run more_loop a.1)) x p in
    let (y, h, e) = list_after close_paren_at further_at (λ xs ts rest. AreMore xs ts (t.CloseParen ∷ rest)) close_paren_sound further_goes a.0 a.1 x s in
    subst (λ z. AreArgs z.0 ts (t.CloseParen ∷ z.1)) e (a.1, atom_sound ts a q, h)

args_step : (ts : List Token) (stop : Option (List Token)) (x : List Atom × List Token) → close_paren_at ts ≡ stop → stop_or more_loop stop (first_arg ts) ≡ Ok x → AreArgs x.0 ts (t.CloseParen ∷ x.1)
args_step ts (Some rest) x e p = subst (λ z. AreArgs z.0 ts (t.CloseParen ∷ z.1)) (ok_inj _ x p) (close_paren_sound ts rest e)
args_step ts None x e p = first_sound ts x p

args_sound : (ts : List Token) (x : List Atom × List Token) → args_at ts ≡ Ok x → AreArgs x.0 ts (t.CloseParen ∷ x.1)
args_sound ts x p = args_step ts (close_paren_at ts) x refl p

call_sound : (object : List ℕ) (ts : List Token) (x : Call × List Token) → call_at object ts ≡ Ok x → IsCall x.0 (t.Name object ∷ t.Dot ∷ ts) x.1
call_sound object ts x p =
    let (op, q, p') = bind_some (name_at ts) (λ op. open_paren_at op.1 >>= λ x. args_at x >>= λ as'. Ok (call_of object op.0 as'.0, as'.1)) x p in
    let (y, s, p'') = bind_some (open_paren_at op.1) (λ x. args_at x >>= λ as'. Ok (call_of object op.0 as'.0, as'.1)) x p' in
    let (a, u, v) = bind_last (args_at y) (λ as'. (call_of object op.0 as'.0, as'.1)) x p'' in
    let ts_is : ts ≡ t.Name op.0 ∷ t.OpenParen ∷ y = name_sound ts op q ∙ ap (λ us. t.Name op.0 ∷ us) (open_paren_sound op.1 y s) in
    subst (λ z. IsCall z.0 (t.Name object ∷ t.Dot ∷ ts) z.1) v (y, ap (λ us. t.Name object ∷ t.Dot ∷ us) ts_is, args_sound y a u)

-- expressions
with_sound : (a : Atom) (us ts : List Token) (op : Option (Operator × List Token)) (x : Expr × List Token) → operator_at ts ≡ op → IsAtom a us ts → expr_with a ts op ≡ Ok x → IsExpr x.0 us x.1
with_sound a us ts None x e h p = subst (λ z. IsExpr z.0 us z.1) (ok_inj _ x p) h
with_sound a us ts (Some op) x e h p =
    let (b, q, s) = bind_last (atom_at op.1) (λ b. (Binary a op.0 b.0, b.1)) x p in
    subst (λ z. IsExpr z.0 us z.1) s (op.1, subst (IsAtom a us) (operator_sound ts op e) h, atom_sound op.1 b q)

expr_sound : (ts : List Token) (x : Expr × List Token) → expr_at ts ≡ Ok x → IsExpr x.0 ts x.1
expr_sound ts x p =
    let (a, q, s) = bind_some (atom_at ts) (λ a. expr_with a.0 a.1 (operator_at a.1)) x p in
    with_sound a.0 ts a.1 (operator_at a.1) x refl (atom_sound ts a q) s

test_sound : (ts : List Token) (x : Test × List Token) → test_at ts ≡ Ok x → IsTest x.0 ts x.1
test_sound ts x p =
    let (a, q, p') = bind_some (atom_at ts) (λ a. relation_at a.1 >>= λ r. atom_at r.1 >>= λ b. Ok (test_of a.0 r.0 b.0, b.1)) x p in
    let (r, s, p'') = bind_some (relation_at a.1) (λ r. atom_at r.1 >>= λ b. Ok (test_of a.0 r.0 b.0, b.1)) x p' in
    let (b, u, v) = bind_last (atom_at r.1) (λ b. (test_of a.0 r.0 b.0, b.1)) x p'' in
    subst (λ z. IsTest z.0 ts z.1) v (r.1, subst (IsAtom a.0 ts) (relation_sound a.1 r s) (atom_sound ts a q), atom_sound r.1 b u)

-- statements: one goes before others
abbrev ExtendsStatements : ℕ → List Token → Stmts × List Token → Type 0
ExtendsStatements n ts x = (more : Stmts) (rest : List Token) → AreStmts (suc n) more x.1 rest → AreStmts (suc n) (join_statements x.0 more) ts rest

command_sound : (n : ℕ) (object : List ℕ) (ts : List Token) (x : Stmts × List Token) → command_at object ts ≡ Ok x → ExtendsStatements n (t.Name object ∷ t.Dot ∷ ts) x
command_sound n object ts x p =
    let (c, q, p') = bind_some (call_at object ts) (λ c. semicolon_at c.1 >>= λ x. Ok (command c.0 end, x)) x p in
    let (y, s, v) = bind_last (semicolon_at c.1) (λ x. (command c.0 end, x)) x p' in
    subst (ExtendsStatements n (t.Name object ∷ t.Dot ∷ ts)) v
    (λ more rest h. (y, subst (IsCall c.0 (t.Name object ∷ t.Dot ∷ ts)) (semicolon_sound c.1 y s) (call_sound object ts c q), h))

query_sound : (n : ℕ) (v object : List ℕ) (ts : List Token) (x : Stmts × List Token) → query_at v object ts ≡ Ok x → ExtendsStatements n (t.Name v ∷ t.Assign ∷ t.Name object ∷ t.Dot ∷ ts) x
query_sound n v object ts x p =
    let (c, q, p') = bind_some (call_at object ts) (λ c. semicolon_at c.1 >>= λ x. Ok (query v c.0 end, x)) x p in
    let (y, s, e) = bind_last (semicolon_at c.1) (λ x. (query v c.0 end, x)) x p' in
    subst (ExtendsStatements n (t.Name v ∷ t.Assign ∷ t.Name object ∷ t.Dot ∷ ts)) e
    (λ more rest h. (_, y, refl, subst (IsCall c.0 (t.Name object ∷ t.Dot ∷ ts)) (semicolon_sound c.1 y s) (call_sound object ts c q), h))

assign_sound : (n : ℕ) (v : List ℕ) (ts : List Token) (x : Stmts × List Token) → assign_at v ts ≡ Ok x → ExtendsStatements n (t.Name v ∷ t.Assign ∷ ts) x
assign_sound n v ts x p =
    let (c, q, p') = bind_some (expr_at ts) (λ e. semicolon_at e.1 >>= λ x. Ok (assign v e.0 end, x)) x p in
    let (y, s, e) = bind_last (semicolon_at c.1) (λ x. (assign v c.0 end, x)) x p' in
    subst (ExtendsStatements n (t.Name v ∷ t.Assign ∷ ts)) e
    (λ more rest h. (ts, y, refl, subst (IsExpr c.0 ts) (semicolon_sound c.1 y s) (expr_sound ts c q), h))

assigned_sound : (n : ℕ) (v : List ℕ) (ts : List Token) (x : Stmts × List Token) → assigned_at v ts ≡ Ok x → ExtendsStatements n (t.Name v ∷ t.Assign ∷ ts) x
assigned_sound n v (t.Name object ∷ t.Dot ∷ ts) x p = query_sound n v object ts x p
assigned_sound n v ts x p = assign_sound n v ts x p

named_sound : (n : ℕ) (name : List ℕ) (ts : List Token) (x : Stmts × List Token) → named_at name ts ≡ Ok x → ExtendsStatements n (t.Name name ∷ ts) x
named_sound n name (t.Dot ∷ ts) x p = command_sound n name ts x p
named_sound n name (t.Assign ∷ ts) x p = assigned_sound n name ts x p
named_sound n name _ x p = cc

-- statements whose bodies are in the grammar where inner reads them
module _ (n : ℕ) (inner : List Token → Read Stmts) (inner_sound : (ts : List Token) (x : Stmts × List Token) → inner ts ≡ Ok x → AreStmts n x.0 ts (t.CloseBrace ∷ x.1)) where
  braced_sound : (ts : List Token) (x : Stmts × List Token) → braced_at inner ts ≡ Ok x → (y : List Token) × (ts ≡ t.OpenBrace ∷ y) × AreStmts n x.0 y (t.CloseBrace ∷ x.1)
  braced_sound ts x p =
      let (y, q, s) = bind_some (due ts (open_brace_at ts)) inner x p in (y, open_brace_sound ts y (due_some ts (open_brace_at ts) y q), inner_sound y x s)

  -- the second body, if there is one, and the tokens before it
  abbrev IsOther : Option Stmts → List Token → List Token → Type 0
  IsOther None ts rest = ts ≡ rest
  IsOther (Some other) ts rest = (y : List Token) × (ts ≡ t.Else ∷ t.OpenBrace ∷ y) × AreStmts n other y (t.CloseBrace ∷ rest)

  some_other_sound : (ts : List Token) (x : Option Stmts × List Token) → (braced_at inner ts >>= λ b. Ok (Some b.0, b.1)) ≡ Ok x → IsOther x.0 (t.Else ∷ ts) x.1
  some_other_sound ts x p =
      let (b, q, s) = bind_last (braced_at inner ts) (λ b. (Some b.0, b.1)) x p in
      let (y, e, h) = braced_sound ts b q in
      subst (λ z. IsOther z.0 (t.Else ∷ ts) z.1) s (y, ap (λ us. t.Else ∷ us) e, h)

  other_sound : (ts : List Token) (x : Option Stmts × List Token) → other_at inner ts ≡ Ok x → IsOther x.0 ts x.1
  other_sound (t.Else ∷ ts) x p = some_other_sound ts x p
  other_sound ts x p = subst (λ z. IsOther z.0 ts z.1) (ok_inj _ x p) refl

  choice_whole : (c : Test) (first : Stmts) (other : Option Stmts) (x y z w : List Token) → IsTest c x (t.OpenBrace ∷ y) → AreStmts n first y (t.CloseBrace ∷ z) → IsOther other z w → ExtendsStatements n (t.If ∷ x) (choice_of c first other, w)
  choice_whole c first None x y z w h k e = λ more rest m. (x, y, z, refl, h, k, rw e m)
  choice_whole c first (Some other) x y z w h k (u, e, l) = λ more rest m. (x, y, u, w, refl, h, subst (λ us. AreStmts n first y (t.CloseBrace ∷ us)) e k, l, m)

  choice_sound : (ts : List Token) (x : Stmts × List Token) → choice_at inner ts ≡ Ok x → ExtendsStatements n (t.If ∷ ts) x
  choice_sound ts x p =
      let (c, q, p') = bind_some (test_at ts) (λ c. braced_at inner c.1 >>= λ b. other_at inner b.1 >>= λ e. Ok (choice_of c.0 b.0 e.0, e.1)) x p in
      let (b, s, p'') = bind_some (braced_at inner c.1) (λ b. other_at inner b.1 >>= λ e. Ok (choice_of c.0 b.0 e.0, e.1)) x p' in
      let (e, u, v) = bind_last (other_at inner b.1) (λ e. (choice_of c.0 b.0 e.0, e.1)) x p'' in
      let (y, e', k) = braced_sound c.1 b s in
      subst (ExtendsStatements n (t.If ∷ ts)) v
      (choice_whole c.0 b.0 e.0 ts y b.1 e.1 (subst (IsTest c.0 ts) e' (test_sound ts c q)) k (other_sound b.1 e u))

  repeat_sound : (ts : List Token) (x : Stmts × List Token) → repeat_at inner ts ≡ Ok x → ExtendsStatements n (t.Repeat ∷ ts) x
  repeat_sound ts x p =
      let (k, q, p') = bind_some (number_at ts) (λ n. braced_at inner n.1 >>= λ b. Ok (again n.0 b.0 end, b.1)) x p in
      let (b, s, v) = bind_last (braced_at inner k.1) (λ b. (again k.0 b.0 end, b.1)) x p' in
      let (y, e, h) = braced_sound k.1 b s in
      let ts_is : ts ≡ t.Number k.0 ∷ t.OpenBrace ∷ y = number_sound ts k q ∙ ap (λ us. t.Number k.0 ∷ us) e in
      subst (ExtendsStatements n (t.Repeat ∷ ts)) v (λ more rest m. (y, b.1, ap (λ us. t.Repeat ∷ us) ts_is, h, m))

  leave_sound : (ts : List Token) (x : Stmts × List Token) → (semicolon_at ts >>= λ y. Ok (leave end, y)) ≡ Ok x → ExtendsStatements n (t.Leave ∷ ts) x
  leave_sound ts x p =
      let (y, q, v) = bind_last (semicolon_at ts) (λ y. (leave end, y)) x p in
      subst (ExtendsStatements n (t.Leave ∷ ts)) v (λ more rest m. (y, ap (λ us. t.Leave ∷ us) (semicolon_sound ts y q), m))

  stmt_sound : (ts : List Token) (x : Stmts × List Token) → stmt_at inner ts ≡ Ok x → ExtendsStatements n ts x
  stmt_sound (t.Leave ∷ ts) x p = leave_sound ts x p
  stmt_sound (t.If ∷ ts) x p = choice_sound ts x p
  stmt_sound (t.Repeat ∷ ts) x p = repeat_sound ts x p
  stmt_sound (t.Name m ∷ ts) x p = named_sound n m ts x p
  stmt_sound _ x p = cc

body_sound : (levels : ℕ) (ts : List Token) (x : Stmts × List Token) → run (body_loop levels) ts ≡ Ok x → AreStmts levels x.0 ts (t.CloseBrace ∷ x.1)
body_sound zero = run_sound (body_loop zero) (λ s ts rest. AreStmts zero s ts (t.CloseBrace ∷ rest)) close_brace_sound (λ ts x m rest p h. cc)
body_sound (suc n) = run_sound (body_loop (suc n)) (λ s ts rest. AreStmts (suc n) s ts (t.CloseBrace ∷ rest)) close_brace_sound
    (λ ts x m rest p h. stmt_sound n (run (body_loop n)) (body_sound n) ts x p m (t.CloseBrace ∷ rest) h)

-- blocks and items
names_goes : (ts : List Token) (x : List ℕ × List Token) (xs : List (List ℕ)) (rest : List Token) → name_at ts ≡ Ok x → AreNames xs x.1 (t.OpenBrace ∷ rest) → AreNames (x.0 ∷ xs) ts (t.OpenBrace ∷ rest)
names_goes ts x xs rest p h = (x.1, name_sound ts x p, h)

block_sound : (ts : List Token) (x : Block × List Token) → block_at ts ≡ Ok x → IsBlock x.0 (t.Separate ∷ ts) x.1
block_sound ts x p =
    let (m, q, p') = bind_some (name_at ts) (λ n. after names_loop (n.0 ∷ []) (run names_loop n.1) >>= λ ns. run (body_loop 9) ns.1 >>= λ b. Ok (block_of ns.0 b.0, b.1)) x p in
    let (ms, s, p'') = bind_some (after names_loop (m.0 ∷ []) (run names_loop m.1)) (λ ns. run (body_loop 9) ns.1 >>= λ b. Ok (block_of ns.0 b.0, b.1)) x p' in
    let (b, u, v) = bind_last (run (body_loop 9) ms.1) (λ b. (block_of ms.0 b.0, b.1)) x p'' in
    let (y, h, e) = list_after open_brace_at name_at (λ xs ts rest. AreNames xs ts (t.OpenBrace ∷ rest)) open_brace_sound names_goes m.0 m.1 ms s in
    let names : AreSomeNames ms.0 ts (t.OpenBrace ∷ ms.1) = subst (λ z. AreSomeNames z.0 ts (t.OpenBrace ∷ z.1)) e (m.1, name_sound ts m q, h) in
    subst (λ z. IsBlock z.0 (t.Separate ∷ ts) z.1) v (ts, ms.1, refl, names, body_sound 9 ms.1 b u)

separate_sound : (ts : List Token) (x : Block × List Token) → separate_at ts ≡ Ok x → IsBlock x.0 ts x.1
separate_sound (t.Separate ∷ ts) x p = block_sound ts x p
separate_sound _ x p = cc

blocks_sound : (ts : List Token) (x : List Block × List Token) → run blocks_loop ts ≡ Ok x → AreBlocks x.0 ts (t.CloseBrace ∷ x.1)
blocks_sound = list_sound close_brace_at separate_at (λ xs ts rest. AreBlocks xs ts (t.CloseBrace ∷ rest)) close_brace_sound
    (λ ts x xs rest p h. (x.1, separate_sound ts x p, h))

one_number_sound : (u : Token) (k : ℕ → KindText) (is : (n : ℕ) (ts rest : List Token) → ts ≡ u ∷ t.Number n ∷ rest → IsKind (k n) ts rest) (ts : List Token) (x : KindText × List Token) → (number_at ts >>= λ n. Ok (k n.0, n.1)) ≡ Ok x → IsKind x.0 (u ∷ ts) x.1
one_number_sound u k is ts x p =
    let (n, q, v) = bind_last (number_at ts) (λ n. (k n.0, n.1)) x p in
    subst (λ z. IsKind z.0 (u ∷ ts) z.1) v (is n.0 (u ∷ ts) n.1 (ap (λ us. u ∷ us) (number_sound ts n q)))

grid_sound : (ts : List Token) (x : KindText × List Token) → (number_at ts >>= λ n. number_at n.1 >>= λ m. Ok (Grid n.0 m.0, m.1)) ≡ Ok x → IsKind x.0 (t.Grid ∷ ts) x.1
grid_sound ts x p =
    let (n, q, p') = bind_some (number_at ts) (λ n. number_at n.1 >>= λ m. Ok (Grid n.0 m.0, m.1)) x p in
    let (m, s, v) = bind_last (number_at n.1) (λ m. (Grid n.0 m.0, m.1)) x p' in
    let ts_is : ts ≡ t.Number n.0 ∷ t.Number m.0 ∷ m.1 = number_sound ts n q ∙ ap (λ us. t.Number n.0 ∷ us) (number_sound n.1 m s) in
    subst (λ z. IsKind z.0 (t.Grid ∷ ts) z.1) v (ap (λ us. t.Grid ∷ us) ts_is)

kind_sound : (ts : List Token) (x : KindText × List Token) → kind_at ts ≡ Ok x → IsKind x.0 ts x.1
kind_sound (t.Account ∷ ts) x p = one_number_sound t.Account Account (λ n ts rest e. e) ts x p
kind_sound (t.Buffer ∷ ts) x p = one_number_sound t.Buffer Buffer (λ n ts rest e. e) ts x p
kind_sound (t.Grid ∷ ts) x p = grid_sound ts x p
kind_sound _ x p = cc

object_sound : (ts : List Token) (x : Item × List Token) → object_at ts ≡ Ok x → IsItem x.0 (t.Object ∷ ts) x.1
object_sound ts x p =
    let (n, q, p') = bind_some (name_at ts) (λ n. object_called_at n.0 n.1) x p in
    let (k, s, v) = bind_last (kind_at n.1) (λ k. (object_of n.0 k.0, k.1)) x p' in
    subst (λ z. IsItem z.0 (t.Object ∷ ts) z.1) v (n.1, ap (λ us. t.Object ∷ us) (name_sound ts n q), kind_sound n.1 k s)

own_blocks_sound : (n : List ℕ) (ts : List Token) (x : Item × List Token) → own_blocks_at n ts ≡ Ok x → IsItem x.0 (t.Client ∷ t.Name n ∷ t.OpenBrace ∷ ts) x.1
own_blocks_sound n ts x p =
    let (bs, u, v) = bind_last (run blocks_loop ts) (λ bs. (client_of n bs.0, bs.1)) x p in
    subst (λ z. IsItem z.0 (t.Client ∷ t.Name n ∷ t.OpenBrace ∷ ts) z.1) v (ts, refl, blocks_sound ts bs u)

-- formals, and objects that are given
kind_word_sound : (ts : List Token) (x : KindWord × List Token) → kind_word_at ts ≡ Ok x → ts ≡ kind_token x.0 ∷ x.1
kind_word_sound (t.Account ∷ ts) x p = let e : (kind.Account, ts) ≡ x = cc in ap (λ y. kind_token y.0 ∷ y.1) e
kind_word_sound (t.Buffer ∷ ts) x p = let e : (kind.Buffer, ts) ≡ x = cc in ap (λ y. kind_token y.0 ∷ y.1) e
kind_word_sound (t.Grid ∷ ts) x p = let e : (kind.Grid, ts) ≡ x = cc in ap (λ y. kind_token y.0 ∷ y.1) e
kind_word_sound _ x p = cc

formal_sound : (ts : List Token) (x : Formal × List Token) → formal_at ts ≡ Ok x → IsFormal x.0 ts x.1
formal_sound ts x p =
    let (k, q, p') = bind_some (kind_word_at ts) (λ k. name_at k.1 >>= λ n. Ok (formal_of k.0 n.0, n.1)) x p in
    let (n, s, v) = bind_last (name_at k.1) (λ n. (formal_of k.0 n.0, n.1)) x p' in
    subst (λ z. IsFormal z.0 ts z.1) v (kind_word_sound ts k q ∙ ap (λ us. kind_token k.0 ∷ us) (name_sound k.1 n s))

formal_goes : (ts : List Token) (x : Formal × List Token) (xs : List Formal) (rest : List Token) → further_formal_at ts ≡ Ok x → AreMoreFormals xs x.1 (t.CloseParen ∷ rest) → AreMoreFormals (x.0 ∷ xs) ts (t.CloseParen ∷ rest)
formal_goes ts x xs rest p h =
    let (u, q, s) = bind_some (comma_at ts) formal_at x p in (u, x.1, comma_sound ts u q, formal_sound u x s, h)

formals_sound : (ts : List Token) (x : List Formal × List Token) → formals_at ts ≡ Ok x → AreFormals x.0 ts (t.CloseParen ∷ x.1)
formals_sound ts x p =
    let (f, q, s) = bind_some (formal_at ts) (λ f. after formals_loop (f.0 ∷ []) (run formals_loop f.1)) x p in
    let (y, h, e) = list_after close_paren_at further_formal_at (λ xs ts rest. AreMoreFormals xs ts (t.CloseParen ∷ rest)) close_paren_sound formal_goes f.0 f.1 x s in
    subst (λ z. AreFormals z.0 ts (t.CloseParen ∷ z.1)) e (f.1, formal_sound ts f q, h)

given_goes : (ts : List Token) (x : List ℕ × List Token) (xs : List (List ℕ)) (rest : List Token) → further_name_at ts ≡ Ok x → AreMoreNames xs x.1 (t.CloseParen ∷ rest) → AreMoreNames (x.0 ∷ xs) ts (t.CloseParen ∷ rest)
given_goes ts x xs rest p h =
    let (u, q, s) = bind_some (comma_at ts) name_at x p in (x.1, comma_sound ts u q ∙ ap (λ us. t.Comma ∷ us) (name_sound u x s), h)

given_sound : (ts : List Token) (x : List (List ℕ) × List Token) → given_at ts ≡ Ok x → AreGiven x.0 ts (t.CloseParen ∷ x.1)
given_sound ts x p =
    let (n, q, s) = bind_some (name_at ts) (λ n. after given_loop (n.0 ∷ []) (run given_loop n.1)) x p in
    let (y, h, e) = list_after close_paren_at further_name_at (λ xs ts rest. AreMoreNames xs ts (t.CloseParen ∷ rest)) close_paren_sound given_goes n.0 n.1 x s in
    subst (λ z. AreGiven z.0 ts (t.CloseParen ∷ z.1)) e (n.1, name_sound ts n q, h)

template_blocks_sound : (n : List ℕ) (fs : List Formal) (ts start : List Token) (x : Item × List Token) → AreFormals fs start (t.CloseParen ∷ ts) → template_blocks_at n fs ts ≡ Ok x → IsItem x.0 (t.Template ∷ t.Name n ∷ t.OpenParen ∷ start) x.1
template_blocks_sound n fs ts start x formals p =
    let (y, q, p') = bind_some (due ts (open_brace_at ts)) (λ x. run blocks_loop x >>= λ bs. Ok (template_of n fs bs.0, bs.1)) x p in
    let (bs, u, v) = bind_last (run blocks_loop y) (λ bs. (template_of n fs bs.0, bs.1)) x p' in
    let opened : AreFormals fs start (t.CloseParen ∷ t.OpenBrace ∷ y) = subst (λ us. AreFormals fs start (t.CloseParen ∷ us)) (open_brace_sound ts y (due_some ts (open_brace_at ts) y q)) formals in
    subst (λ z. IsItem z.0 (t.Template ∷ t.Name n ∷ t.OpenParen ∷ start) z.1) v (start, y, refl, opened, blocks_sound y bs u)

template_called_sound : (n : List ℕ) (ts : List Token) (x : Item × List Token) → template_called_at n ts ≡ Ok x → IsItem x.0 (t.Template ∷ t.Name n ∷ t.OpenParen ∷ ts) x.1
template_called_sound n ts x p =
    let (fs, q, p') = bind_some (formals_at ts) (λ fs. template_blocks_at n fs.0 fs.1) x p in
    template_blocks_sound n fs.0 fs.1 ts x (formals_sound ts fs q) p'

template_sound : (ts : List Token) (x : Item × List Token) → template_at ts ≡ Ok x → IsItem x.0 (t.Template ∷ ts) x.1
template_sound ts x p =
    let (n, q, p') = bind_some (name_at ts) (λ n. open_paren_at n.1 >>= λ x. template_called_at n.0 x) x p in
    let (y, s, p'') = bind_some (open_paren_at n.1) (λ x. template_called_at n.0 x) x p' in
    let ts_is : ts ≡ t.Name n.0 ∷ t.OpenParen ∷ y = name_sound ts n q ∙ ap (λ us. t.Name n.0 ∷ us) (open_paren_sound n.1 y s) in
    subst (λ us. IsItem x.0 (t.Template ∷ us) x.1) (sym ts_is) (template_called_sound n.0 y x p'')

started_with_sound : (n m : List ℕ) (ts : List Token) (x : Item × List Token) → started_with_at n m ts ≡ Ok x → IsItem x.0 (t.Client ∷ t.Name n ∷ t.Assign ∷ t.Name m ∷ t.OpenParen ∷ ts) x.1
started_with_sound n m ts x p =
    let (os, q, v) = bind_last (given_at ts) (λ os. (started_of n m os.0, os.1)) x p in
    subst (λ z. IsItem z.0 (t.Client ∷ t.Name n ∷ t.Assign ∷ t.Name m ∷ t.OpenParen ∷ ts) z.1) v (ts, refl, given_sound ts os q)

started_sound : (n : List ℕ) (ts : List Token) (x : Item × List Token) → started_at n ts ≡ Ok x → IsItem x.0 (t.Client ∷ t.Name n ∷ t.Assign ∷ ts) x.1
started_sound n ts x p =
    let (m, q, p') = bind_some (name_at ts) (λ m. open_paren_at m.1 >>= λ x. started_with_at n m.0 x) x p in
    let (y, s, p'') = bind_some (open_paren_at m.1) (λ x. started_with_at n m.0 x) x p' in
    let ts_is : ts ≡ t.Name m.0 ∷ t.OpenParen ∷ y = name_sound ts m q ∙ ap (λ us. t.Name m.0 ∷ us) (open_paren_sound m.1 y s) in
    subst (λ us. IsItem x.0 (t.Client ∷ t.Name n ∷ t.Assign ∷ us) x.1) (sym ts_is) (started_with_sound n m.0 y x p'')

client_called_sound : (n : List ℕ) (ts : List Token) (x : Item × List Token) → client_called_at n ts ≡ Ok x → IsItem x.0 (t.Client ∷ t.Name n ∷ ts) x.1
client_called_sound n (t.OpenBrace ∷ ts) x p = own_blocks_sound n ts x p
client_called_sound n (t.Assign ∷ ts) x p = started_sound n ts x p
client_called_sound n _ x p = cc

client_sound : (ts : List Token) (x : Item × List Token) → client_at ts ≡ Ok x → IsItem x.0 (t.Client ∷ ts) x.1
client_sound ts x p =
    let (n, q, p') = bind_some (name_at ts) (λ n. client_called_at n.0 n.1) x p in
    subst (λ us. IsItem x.0 (t.Client ∷ us) x.1) (sym (name_sound ts n q)) (client_called_sound n.0 n.1 x p')

item_sound : (ts : List Token) (x : Item × List Token) → item_at ts ≡ Ok x → IsItem x.0 ts x.1
item_sound (t.Object ∷ ts) x p = object_sound ts x p
item_sound (t.Client ∷ ts) x p = client_sound ts x p
item_sound (t.Template ∷ ts) x p = template_sound ts x p
item_sound _ x p = cc

end_sound : (ts rest : List Token) → end_at ts ≡ Some rest → ts ≡ []
end_sound [] rest p = refl
end_sound (x ∷ ts) rest p = cc

-- the items that are read are a script
pub items_sound : (ts : List Token) (x : List Item × List Token) → run items_loop ts ≡ Ok x → IsScript x.0 ts
items_sound = list_sound end_at item_at (λ xs ts rest. AreItems xs ts []) end_sound (λ ts x xs rest p h. (x.1, item_sound ts x p, h))
