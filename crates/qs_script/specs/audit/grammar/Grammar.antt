-- The grammar. In each relation a tree stands from the first of the tokens ts up to before the first of the tokens
-- rest.
use Rattle.std.specs.Prelude.{◌≡◌, ◌⊎◌, ℕ, zero, suc, List, [], ◌∷◌, pos}
use Rattle.std.proofs.Common.{neg_ℤ}
use Rattle.qs_script.specs.declared.tokens.token.Token.{Token}
use Rattle.qs_script.specs.declared.tokens.token.Token.TheVariants as t
use Rattle.qs_script.specs.declared.tree.tree.Atom.{Atom}
use Rattle.qs_script.specs.declared.tree.tree.Atom.TheVariants.{Variable, Number}
use Rattle.qs_script.specs.declared.tree.tree.Operator.{Operator}
use Rattle.qs_script.specs.declared.tree.tree.Operator.TheVariants as o
use Rattle.qs_script.specs.declared.tree.tree.Relation.{Relation}
use Rattle.qs_script.specs.declared.tree.tree.Relation.TheVariants as r
use Rattle.qs_script.specs.declared.tree.tree.Expr.{Expr}
use Rattle.qs_script.specs.declared.tree.tree.Expr.TheVariants.{Plain, Binary}
use Rattle.qs_script.specs.declared.tree.tree.Test.{Test}
use Rattle.qs_script.specs.declared.tree.tree.Call.{Call}
use Rattle.qs_script.specs.declared.tree.tree.Block.{Block}
use Rattle.qs_script.specs.declared.tree.tree.KindText.{KindText}
use Rattle.qs_script.specs.declared.tree.tree.KindText.TheVariants.{Account, Buffer, Grid}
use Rattle.qs_script.specs.declared.tree.tree.KindWord.{KindWord}
use Rattle.qs_script.specs.declared.tree.tree.KindWord.TheVariants as kind
use Rattle.qs_script.specs.declared.tree.tree.Formal.{Formal}
use Rattle.qs_script.specs.declared.tree.tree.Item.{Item}
use Rattle.qs_script.specs.declared.tree.tree.Item.TheVariants.{Object, Client, Template, Started}
use Rattle.qs_script.specs.audit.tree.Tree.{Stmts, end, command, query, assign, choose, choose_else, again, leave}
use Rattle.qs_script.specs.audit.tree.Limits.{most_levels}

-- name | N | "-" N
abbrev pub IsAtom : Atom → List Token → List Token → Type 0
IsAtom (Variable n) ts rest = ts ≡ t.Name n ∷ rest
IsAtom (Number z) ts rest =
    (n : ℕ) × (((z ≡ pos n) × (ts ≡ t.Number n ∷ rest)) ⊎ ((z ≡ neg_ℤ (pos n)) × (ts ≡ t.Minus ∷ t.Number n ∷ rest)))

-- ("," atom)*
abbrev pub AreMore : List Atom → List Token → List Token → Type 0
AreMore [] ts rest = ts ≡ rest
AreMore (a ∷ as') ts rest = (x y : List Token) × (ts ≡ t.Comma ∷ x) × IsAtom a x y × AreMore as' y rest

-- [atom ("," atom)*]
abbrev pub AreArgs : List Atom → List Token → List Token → Type 0
AreArgs [] ts rest = ts ≡ rest
AreArgs (a ∷ as') ts rest = (y : List Token) × IsAtom a ts y × AreMore as' y rest

-- name "." name "(" [atom ("," atom)*] ")"
abbrev pub IsCall : Call → List Token → List Token → Type 0
IsCall c ts rest =
    (x : List Token) × (ts ≡ t.Name c.object ∷ t.Dot ∷ t.Name c.op ∷ t.OpenParen ∷ x)
    × AreArgs c.args x (t.CloseParen ∷ rest)

abbrev pub operator_token : Operator → Token
operator_token o.Plus = t.Plus
operator_token o.Minus = t.Minus
operator_token o.Times = t.Times

abbrev pub relation_token : Relation → Token
relation_token r.Equal = t.Equal
relation_token r.Unequal = t.Unequal
relation_token r.Less = t.Less
relation_token r.AtMost = t.AtMost
relation_token r.Greater = t.Greater
relation_token r.AtLeast = t.AtLeast

-- atom | atom op atom
abbrev pub IsExpr : Expr → List Token → List Token → Type 0
IsExpr (Plain a) ts rest = IsAtom a ts rest
IsExpr (Binary a op b) ts rest = (x : List Token) × IsAtom a ts (operator_token op ∷ x) × IsAtom b x rest

-- atom rel atom
abbrev pub IsTest : Test → List Token → List Token → Type 0
IsTest c ts rest = (x : List Token) × IsAtom c.left ts (relation_token c.relation ∷ x) × IsAtom c.right x rest

-- stmt*, where at most `levels` statements stand one inside another
abbrev pub AreStmts : ℕ → Stmts → List Token → List Token → Type 0
AreStmts levels end ts rest = ts ≡ rest
AreStmts zero _ ts rest = ⊥
AreStmts (suc n) (command c more) ts rest =
    (y : List Token) × IsCall c ts (t.Semicolon ∷ y) × AreStmts (suc n) more y rest
AreStmts (suc n) (query v c more) ts rest =
    (x y : List Token) × (ts ≡ t.Name v ∷ t.Assign ∷ x) × IsCall c x (t.Semicolon ∷ y) × AreStmts (suc n) more y rest
AreStmts (suc n) (assign v e more) ts rest =
    (x y : List Token) × (ts ≡ t.Name v ∷ t.Assign ∷ x) × IsExpr e x (t.Semicolon ∷ y) × AreStmts (suc n) more y rest
AreStmts (suc n) (choose c first more) ts rest =
    (x y z : List Token) × (ts ≡ t.If ∷ x) × IsTest c x (t.OpenBrace ∷ y) × AreStmts n first y (t.CloseBrace ∷ z)
    × AreStmts (suc n) more z rest
AreStmts (suc n) (choose_else c first other more) ts rest =
    (x y z w : List Token) × (ts ≡ t.If ∷ x) × IsTest c x (t.OpenBrace ∷ y)
    × AreStmts n first y (t.CloseBrace ∷ t.Else ∷ t.OpenBrace ∷ z) × AreStmts n other z (t.CloseBrace ∷ w)
    × AreStmts (suc n) more w rest
AreStmts (suc n) (again k body more) ts rest =
    (x y : List Token) × (ts ≡ t.Repeat ∷ t.Number k ∷ t.OpenBrace ∷ x) × AreStmts n body x (t.CloseBrace ∷ y)
    × AreStmts (suc n) more y rest
AreStmts (suc n) (leave more) ts rest =
    (y : List Token) × (ts ≡ t.Leave ∷ t.Semicolon ∷ y) × AreStmts (suc n) more y rest

-- name*
abbrev pub AreNames : List (List ℕ) → List Token → List Token → Type 0
AreNames [] ts rest = ts ≡ rest
AreNames (n ∷ ns) ts rest = (x : List Token) × (ts ≡ t.Name n ∷ x) × AreNames ns x rest

-- name+
abbrev pub AreSomeNames : List (List ℕ) → List Token → List Token → Type 0
AreSomeNames [] ts rest = ⊥
AreSomeNames (n ∷ ns) ts rest = AreNames (n ∷ ns) ts rest

-- "separate" name+ "{" stmt* "}"; a statement stands inside at most eight others, so nine stand one inside another
abbrev pub IsBlock : Block → List Token → List Token → Type 0
IsBlock b ts rest =
    (x y : List Token) × (ts ≡ t.Separate ∷ x) × AreSomeNames b.reserved x (t.OpenBrace ∷ y)
    × AreStmts most_levels b.body y (t.CloseBrace ∷ rest)

-- block*
abbrev pub AreBlocks : List Block → List Token → List Token → Type 0
AreBlocks [] ts rest = ts ≡ rest
AreBlocks (b ∷ bs) ts rest = (x : List Token) × IsBlock b ts x × AreBlocks bs x rest

-- "account" N | "buffer" N | "grid" N N
abbrev pub IsKind : KindText → List Token → List Token → Type 0
IsKind (Account n) ts rest = ts ≡ t.Account ∷ t.Number n ∷ rest
IsKind (Buffer n) ts rest = ts ≡ t.Buffer ∷ t.Number n ∷ rest
IsKind (Grid rows columns) ts rest = ts ≡ t.Grid ∷ t.Number rows ∷ t.Number columns ∷ rest

abbrev pub kind_token : KindWord → Token
kind_token kind.Account = t.Account
kind_token kind.Buffer = t.Buffer
kind_token kind.Grid = t.Grid

-- ("account" | "buffer" | "grid") name
abbrev pub IsFormal : Formal → List Token → List Token → Type 0
IsFormal f ts rest = ts ≡ kind_token f.kind ∷ t.Name f.name ∷ rest

-- ("," formal)*
abbrev pub AreMoreFormals : List Formal → List Token → List Token → Type 0
AreMoreFormals [] ts rest = ts ≡ rest
AreMoreFormals (f ∷ fs) ts rest = (x y : List Token) × (ts ≡ t.Comma ∷ x) × IsFormal f x y × AreMoreFormals fs y rest

-- formal ("," formal)*
abbrev pub AreFormals : List Formal → List Token → List Token → Type 0
AreFormals [] ts rest = ⊥
AreFormals (f ∷ fs) ts rest = (y : List Token) × IsFormal f ts y × AreMoreFormals fs y rest

-- ("," name)*
abbrev pub AreMoreNames : List (List ℕ) → List Token → List Token → Type 0
AreMoreNames [] ts rest = ts ≡ rest
AreMoreNames (n ∷ ns) ts rest = (x : List Token) × (ts ≡ t.Comma ∷ t.Name n ∷ x) × AreMoreNames ns x rest

-- name ("," name)*
abbrev pub AreGiven : List (List ℕ) → List Token → List Token → Type 0
AreGiven [] ts rest = ⊥
AreGiven (n ∷ ns) ts rest = (y : List Token) × (ts ≡ t.Name n ∷ y) × AreMoreNames ns y rest

-- "object" name kind | "client" name "{" block* "}" | "template" name "(" formal ("," formal)* ")" "{" block* "}"
-- | "client" name "=" name "(" name ("," name)* ")"
abbrev pub IsItem : Item → List Token → List Token → Type 0
IsItem (Object x) ts rest = (y : List Token) × (ts ≡ t.Object ∷ t.Name x.name ∷ y) × IsKind x.kind y rest
IsItem (Client c) ts rest =
    (y : List Token) × (ts ≡ t.Client ∷ t.Name c.name ∷ t.OpenBrace ∷ y) × AreBlocks c.blocks y (t.CloseBrace ∷ rest)
IsItem (Template c) ts rest =
    (x y : List Token) × (ts ≡ t.Template ∷ t.Name c.name ∷ t.OpenParen ∷ x)
    × AreFormals c.formals x (t.CloseParen ∷ t.OpenBrace ∷ y) × AreBlocks c.blocks y (t.CloseBrace ∷ rest)
IsItem (Started c) ts rest =
    (x : List Token) × (ts ≡ t.Client ∷ t.Name c.name ∷ t.Assign ∷ t.Name c.template ∷ t.OpenParen ∷ x)
    × AreGiven c.objects x (t.CloseParen ∷ rest)

-- item*
abbrev pub AreItems : List Item → List Token → List Token → Type 0
AreItems [] ts rest = ts ≡ rest
AreItems (i ∷ is) ts rest = (x : List Token) × IsItem i ts x × AreItems is x rest

-- the items are all that the tokens say
abbrev pub IsScript : List Item → List Token → Type 0
IsScript items ts = AreItems items ts []
