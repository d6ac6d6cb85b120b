-- Whatever is a script by the grammar has its form: each block reserves at least one object, and its statements are
-- nested no deeper than the limit. The function `script` promises this of the items that it reads. It goes by induction
-- on the statements, since the grammar counts one level less for each body.
use Rattle.std.proofs.Common.{ℕ, zero, suc, ◌<◌, ◌≤◌, List, [], ◌∷◌, length, arith}
use Rattle.std.specs.List.{AllByRecursion}
use Rattle.qs_script.specs.Types.{Token, Block, Item, Object, Client, Template, Started}
use Rattle.qs_script.specs.declared.tokens.token.Token.TheVariants as t
use Rattle.qs_script.specs.audit.tree.Tree.{Stmts, end, command, query, assign, choose, choose_else, again, leave}
use Rattle.qs_script.specs.audit.grammar.Grammar.{AreStmts, AreSomeNames, AreBlocks, AreItems}
use Rattle.qs_script.specs.tree.Form.{levels_of, IsFormed, HasForm}

shallow_stmts : (n : ℕ) (s : Stmts) (ts rest : List Token) → AreStmts n s ts rest → levels_of s ≤ n
shallow_stmts n end ts rest h = omega arith
shallow_stmts (suc n) (command c more) ts rest (y, e, h) = omega (arith, shallow_stmts (suc n) more y rest h)
shallow_stmts (suc n) (query v c more) ts rest (x, y, e, d, h) = omega (arith, shallow_stmts (suc n) more y rest h)
shallow_stmts (suc n) (assign v d more) ts rest (x, y, e, f, h) = omega (arith, shallow_stmts (suc n) more y rest h)
shallow_stmts (suc n) (choose c first more) ts rest (x, y, z, e, d, g, h) =
    omega (arith, shallow_stmts n first y (t.CloseBrace ∷ z) g, shallow_stmts (suc n) more z rest h)
shallow_stmts (suc n) (choose_else c first other more) ts rest (x, y, z, w, e, d, g, k, h) =
    omega (
      arith,
      shallow_stmts n first y (t.CloseBrace ∷ t.Else ∷ t.OpenBrace ∷ z) g,
      shallow_stmts n other z (t.CloseBrace ∷ w) k,
      shallow_stmts (suc n) more w rest h,
    )
shallow_stmts (suc n) (again k body more) ts rest (x, y, e, g, h) =
    omega (arith, shallow_stmts n body x (t.CloseBrace ∷ y) g, shallow_stmts (suc n) more y rest h)
shallow_stmts (suc n) (leave more) ts rest (y, e, h) = omega (arith, shallow_stmts (suc n) more y rest h)
shallow_stmts zero _ ts rest h = absurd h

some_names : (ns : List (List ℕ)) (ts rest : List Token) → AreSomeNames ns ts rest → 0 < length ns
some_names [] ts rest h = absurd h
some_names (n ∷ ns) ts rest h = omega arith

formed_blocks : (bs : List Block) (ts rest : List Token) → AreBlocks bs ts rest → AllByRecursion IsFormed bs
formed_blocks [] ts rest h = tt
formed_blocks (b ∷ bs) ts rest (x, (y, z, e, names, body), h) = (
  record { some = some_names b.reserved y (t.OpenBrace ∷ z) names; shallow = shallow_stmts 9 b.body z (t.CloseBrace ∷ x) body },
  formed_blocks bs x rest h,
)

pub formed : (items : List Item) (ts rest : List Token) → AreItems items ts rest → HasForm items
formed [] ts rest h = tt
formed (Object o ∷ items) ts rest (x, i, h) = (tt, formed items x rest h)
formed (Client c ∷ items) ts rest (x, (y, e, blocks), h) = (formed_blocks c.blocks y (t.CloseBrace ∷ x) blocks, formed items x rest h)
formed (Template c ∷ items) ts rest (x, (w, y, e, formals, blocks), h) = (formed_blocks c.blocks y (t.CloseBrace ∷ x) blocks, formed items x rest h)
formed (Started c ∷ items) ts rest (x, i, h) = (tt, formed items x rest h)
