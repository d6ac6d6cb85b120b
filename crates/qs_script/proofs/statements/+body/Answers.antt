use Rattle.std.proofs.Common.{arith}
use Rattle.std.proofs.lemmas.Result.{err_from_is_err_and}
use Rattle.qs_script.specs.audit.tree.Tree.{end}
use Rattle.qs_script.specs.grammar.Reading.{body_loop}
use Rattle.qs_script.proofs.Loops.{body_lawful, begins, puts_on, whole_closes, whole_fails}
use Rattle.qs_script.proofs.statements.+body.Goals as goal

pub body-each-init : goal.body-each-init
body-each-init t c = record {
  whole = rw c.in_ok-stmts.ensures.empty (begins (body_loop c.args.levels) end c.args.tokens.now);
  shorter = omega arith;
}

pub body-returns-in-Some-clause-exact : goal.body-returns-in-Some-clause-exact
body-returns-in-Some-clause-exact t c =
    whole_closes (body_loop c.args.levels) (body_lawful c.args.levels) c.args.tokens.now c.each.rest.now c.in-Some.after.now c.each.stmts c.each.invariant.whole c.in-Some.ensures.exact

pub body-returns-in_err-rest-clause-exact : goal.body-returns-in_err-rest-clause-exact
body-returns-in_err-rest-clause-exact t c =
    let p = err_from_is_err_and c.from_residual-in_err-rest.result c.from_residual-in_err-rest.ensures.1 in
    rw (p.1, p.2)
    (whole_fails (body_loop c.args.levels) (body_lawful c.args.levels) c.in_err-rest.field-0.0 c.args.tokens.now c.each.rest.now c.each.stmts c.each.invariant.whole c.in_default.ensures.exact c.in_err-rest.ensures.exact)

pub body-each-preserved : goal.body-each-preserved
body-each-preserved t c = record {
  whole = puts_on c.args.levels end c.args.tokens.now c.each.rest.now c.in_ok-rest.rest.now c.each.stmts c.statement.new.stmts c.each.invariant.whole c.in_default.ensures.exact c.in_ok-rest.ensures.exact c.in_ok-rest.ensures.shorter;
  shorter = omega (arith, c.in_ok-rest.ensures.shorter, c.each.invariant.shorter);
}
