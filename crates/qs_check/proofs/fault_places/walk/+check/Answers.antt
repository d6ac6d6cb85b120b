use Rattle.std.proofs.Common.{◌≡◌, ap, arith, drop, sym, ◌+◌, ◌∙◌, ◌++◌, true}
use Rattle.std.proofs.lemmas.Result.{err_from_is_err_and}
use Rattle.qs_script.specs.tree.Views.{single, size_of, stmts_of}
use Rattle.qs_script.proofs.tree.Sizes.{size_at}
use Rattle.qs_check.specs.audit.fault_places.Places.{places, call_places, test_places, scope_or_fault, variable}
use Rattle.qs_check.proofs.fault_places.Walks.{places-drop, walk_fails, walk_goes_on, meets_err, first_fails, other_meets, one_then}
use Rattle.qs_check.proofs.fault_places.walk.+check.Goals as goal

pub check_body-check_stmt-requires : goal.check_body-check_stmt-requires
check_body-check_stmt-requires t c =
    (omega (arith, size_at c.as_slice-stmt-items.result.now c.loop-stmt.stmt-index c.stmt-item.result c.loop-stmt-test.true, ap size_of c.as_slice-stmt-items.ensures.same, ap (λ s. size_of (single s)) c.stmt-item.is, c.decreases), tt)

pub check_body-returns-in_err-check_stmt : goal.check_body-returns-in_err-check_stmt
check_body-returns-in_err-check_stmt t c =
    let p = err_from_is_err_and c.from_residual.result c.from_residual.ensures.1 in
    let xs = c.as_slice-stmt-items.result.now in
    let i = c.loop-stmt.stmt-index in
    let inside = c.args.inside in
    let fault = c.in_err-check_stmt.field-0.0 in
    let parts : places inside (stmts_of (drop i xs)) ≡ places inside (single c.stmt-item.result) ++ places inside (stmts_of (drop (i + 1) xs)) =
    places-drop inside xs i c.stmt-item.result c.loop-stmt-test.true ∙ ap (λ x. places inside (single x) ++ places inside (stmts_of (drop (i + 1) xs))) (sym c.stmt-item.is) in
    let h = walk_fails c.args.scope.now c.loop-stmt.scope (places inside (stmts_of xs)) (places inside (stmts_of (drop i xs))) (places inside (single c.stmt-item.result)) (places inside (stmts_of (drop (i + 1) xs))) c.loop-stmt.invariant parts fault c.in_err-check_stmt.ensures.meets in
    record { meets = meets_err c.from_residual.result p.0 fault (scope_or_fault c.args.scope.now (places inside c.args.body.now)) c.check_stmt.new.scope p.1 p.2 (rw c.as_slice-stmt-items.ensures.same h) }

pub check_body-loop-stmt-preserved : goal.check_body-loop-stmt-preserved
check_body-loop-stmt-preserved t c =
    let xs = c.as_slice-stmt-items.result.now in
    let i = c.loop-stmt.stmt-index in
    let inside = c.args.inside in
    let parts : places inside (stmts_of (drop i xs)) ≡ places inside (single c.stmt-item.result) ++ places inside (stmts_of (drop (i + 1) xs)) =
    places-drop inside xs i c.stmt-item.result c.loop-stmt-test.true ∙ ap (λ x. places inside (single x) ++ places inside (stmts_of (drop (i + 1) xs))) (sym c.stmt-item.is) in
    walk_goes_on c.args.scope.now c.loop-stmt.scope (places inside (stmts_of xs)) (places inside (stmts_of (drop i xs))) (places inside (single c.stmt-item.result)) (places inside (stmts_of (drop (i + 1) xs))) c.loop-stmt.invariant parts c.check_stmt.new.scope c.in_ok-check_stmt.ensures.meets

pub check_stmt-returns-in_err-check_body-in-IfElse : goal.check_stmt-returns-in_err-check_body-in-IfElse
check_stmt-returns-in_err-check_body-in-IfElse t c =
    let p = err_from_is_err_and c.from_residual-in_err-check_body-in-IfElse.result c.from_residual-in_err-check_body-in-IfElse.ensures.1 in
    let s = c.args.scope.now in
    let inside = c.args.inside in
    let fault = c.in_err-check_body-in-IfElse.field-0.0 in
    rw c.in-IfElse.is (record { meets = meets_err c.from_residual-in_err-check_body-in-IfElse.result p.0 fault _ c.check_body-in-IfElse.new.scope p.1 p.2 (first_fails s c.check_test-in-IfElse.new.scope c.check_body-in-IfElse.new.scope (test_places c.in-IfElse.test) (places inside c.in-IfElse.first) (places inside c.in-IfElse.other) c.in_ok-check_test-in-IfElse.ensures.meets fault c.in_err-check_body-in-IfElse.ensures.meets) })

pub check_stmt-returns-in_ok-variable-in-Query : goal.check_stmt-returns-in_ok-variable-in-Query
check_stmt-returns-in_ok-variable-in-Query t c =
    let s = c.args.scope.now in
    let call = c.in-Query.call in
    rw c.in-Query.is (record { meets = one_then c.check_call-in-Query.result s c.variable.new.self c.check_call-in-Query.new.scope (variable c.in-Query.answered) (call_places true call) c.in_ok-variable-in-Query.ensures.meets c.check_call-in-Query.ensures.meets })

pub check_stmt-returns-in_ok-check_body-in-IfElse : goal.check_stmt-returns-in_ok-check_body-in-IfElse
check_stmt-returns-in_ok-check_body-in-IfElse t c =
    let s = c.args.scope.now in
    let inside = c.args.inside in
    rw c.in-IfElse.is (record { meets = other_meets s c.check_test-in-IfElse.new.scope c.check_body-in-IfElse.new.scope (test_places c.in-IfElse.test) (places inside c.in-IfElse.first) (places inside c.in-IfElse.other) c.in_ok-check_test-in-IfElse.ensures.meets c.check_body-in-IfElse-2.result c.check_body-in-IfElse-2.new.scope c.in_ok-check_body-in-IfElse.ensures.meets c.check_body-in-IfElse-2.ensures.meets })
