-- How a proof tells two lists of statements apart.
use Rattle.std.specs.Prelude.{◌≡◌, refl, ℕ, List}
use Rattle.std.specs.Coded.{Coded, coded_list, coded_ℕ, codes}
use base.Stored.{Gv, gnil, gnum, gcons}
use Rattle.qs_script.specs.declared.tree.tree.Call.{Call}
use Rattle.qs_script.specs.declared.tree.tree.Expr.{Expr}
use Rattle.qs_script.specs.declared.tree.tree.Test.{Test}
use Rattle.qs_script.specs.audit.tree.Tree.{Stmts, end, command, query, assign, choose, choose_else, again, leave}

pub name_code : Coded (List ℕ)
name_code = coded_list coded_ℕ

pub call_code : Coded Call
call_code = hlevel codes

pub expr_code : Coded Expr
expr_code = hlevel codes

pub test_code : Coded Test
test_code = hlevel codes

abbrev pub to : Stmts → Gv
to end = gnil
to (command c xs) = gcons (gnum 0) (gcons (call_code.code c) (to xs))
to (query v c xs) = gcons (gnum 1) (gcons (name_code.code v) (gcons (call_code.code c) (to xs)))
to (assign v e xs) = gcons (gnum 2) (gcons (name_code.code v) (gcons (expr_code.code e) (to xs)))
to (choose t first xs) = gcons (gnum 3) (gcons (test_code.code t) (gcons (to first) (to xs)))
to (choose_else t first other xs) =
    gcons (gnum 4) (gcons (test_code.code t) (gcons (to first) (gcons (to other) (to xs))))
to (again n body xs) = gcons (gnum 5) (gcons (gnum n) (gcons (to body) (to xs)))
to (leave xs) = gcons (gnum 6) (to xs)

pub inj : (x y : Stmts) → to x ≡ to y → x ≡ y
inj end end p = refl
inj (command c xs) (command d ys) p = cc (call_code.inj c d (cc), inj xs ys (cc))
inj (query x c xs) (query y d ys) p = cc (name_code.inj x y (cc), call_code.inj c d (cc), inj xs ys (cc))
inj (assign x c xs) (assign y d ys) p = cc (name_code.inj x y (cc), expr_code.inj c d (cc), inj xs ys (cc))
inj (choose t first xs) (choose u second ys) p =
    cc (test_code.inj t u (cc), inj first second (cc), inj xs ys (cc))
inj (choose_else t first other xs) (choose_else u second another ys) p =
    cc (test_code.inj t u (cc), inj first second (cc), inj other another (cc), inj xs ys (cc))
inj (again n body xs) (again m other ys) p = cc (inj body other (cc), inj xs ys (cc))
inj (leave xs) (leave ys) p = cc (inj xs ys (cc))
inj _ _ p = cc

abbrev pub stmts_code : Coded Stmts
stmts_code = record { code = to; inj = inj }
