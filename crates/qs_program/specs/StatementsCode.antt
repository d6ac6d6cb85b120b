-- How a proof tells two lists of statements apart.
use Rattle.std.specs.Prelude.{◌≡◌, refl}
use Rattle.std.specs.Coded.{Coded, codes, coded_bool}
use Rattle.std.proofs.Common.{ap}
use base.Stored.{Gv, gnil, gnum, gcons}
use Rattle.qs_program.specs.declared.code.Expr.{Expr}
use Rattle.qs_program.specs.declared.code.Test.{Test}
use Rattle.qs_program.specs.declared.code.Call.{Call}
use Rattle.qs_program.specs.audit.Statements.{Statements, end, command, query, assign, choose, again, leave}

pub call_code : Coded Call
call_code = hlevel codes

pub expr_code : Coded Expr
expr_code = hlevel codes

pub test_code : Coded Test
test_code = hlevel codes

abbrev pub to : Statements → Gv
to end = gnil
to (command c xs) = gcons (gnum 0) (gcons (call_code.code c) (to xs))
to (query x c xs) = gcons (gnum 1) (gcons (gnum x) (gcons (call_code.code c) (to xs)))
to (assign x e xs) = gcons (gnum 2) (gcons (gnum x) (gcons (expr_code.code e) (to xs)))
to (choose t b first other xs) =
    gcons (gnum 3) (gcons (test_code.code t) (gcons (coded_bool.code b) (gcons (to first) (gcons (to other) (to xs)))))
to (again n body xs) = gcons (gnum 4) (gcons (gnum n) (gcons (to body) (to xs)))
to (leave xs) = gcons (gnum 5) (to xs)

pub inj : (x y : Statements) → to x ≡ to y → x ≡ y
inj end end p = refl
inj (command c xs) (command d ys) p =
    let calls : call_code.code c ≡ call_code.code d = cc in
    let rests : to xs ≡ to ys = cc in
    λ i. command (call_code.inj c d calls i) (inj xs ys rests i)
inj (query x c xs) (query y d ys) p =
    let names : x ≡ y = cc in
    let calls : call_code.code c ≡ call_code.code d = cc in
    let rests : to xs ≡ to ys = cc in
    λ i. query (names i) (call_code.inj c d calls i) (inj xs ys rests i)
inj (assign x e xs) (assign y f ys) p =
    let names : x ≡ y = cc in
    let exprs : expr_code.code e ≡ expr_code.code f = cc in
    let rests : to xs ≡ to ys = cc in
    λ i. assign (names i) (expr_code.inj e f exprs i) (inj xs ys rests i)
inj (choose t b first other xs) (choose u d one two ys) p =
    let tests : test_code.code t ≡ test_code.code u = cc in
    let elses : coded_bool.code b ≡ coded_bool.code d = cc in
    let firsts : to first ≡ to one = cc in
    let others : to other ≡ to two = cc in
    let rests : to xs ≡ to ys = cc in
    λ i. choose (test_code.inj t u tests i) (coded_bool.inj b d elses i) (inj first one firsts i)
    (inj other two others i) (inj xs ys rests i)
inj (again n body xs) (again m other ys) p =
    let counts : n ≡ m = cc in
    let bodies : to body ≡ to other = cc in
    let rests : to xs ≡ to ys = cc in
    λ i. again (counts i) (inj body other bodies i) (inj xs ys rests i)
inj (leave xs) (leave ys) p =
    let rests : to xs ≡ to ys = cc in
    ap leave (inj xs ys rests)
inj _ _ p = cc

abbrev pub statements_code : Coded Statements
statements_code = record { code = to; inj = inj }
