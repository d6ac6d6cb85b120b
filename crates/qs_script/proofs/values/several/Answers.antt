use Rattle.std.proofs.Common.{arith, [], ◌∷◌}
use Rattle.std.proofs.lemmas.Result.{err_from_is_err_and}
use Rattle.qs_script.specs.grammar.Reading.{close_paren_at, further_at, more_loop}
use Rattle.qs_script.proofs.Loops.{begins, list_goes_on, closes, list_lawful, list_fails}
use Rattle.qs_script.proofs.values.several.Goals as goal

pub each-init : goal.each-init
each-init c = record {
  whole = rw c.one-args.ensures (begins more_loop (c.args.first ∷ []) c.args.tokens.now);
  shorter = omega arith;
}

pub returns-in-Some-clause-exact : goal.returns-in-Some-clause-exact
returns-in-Some-clause-exact c =
    (closes more_loop (list_lawful close_paren_at further_at) (c.args.first ∷ []) c.args.tokens.now c.each.rest.now c.in-Some.after.now c.each.args c.each.invariant.whole c.in-Some.ensures.exact)

pub returns-in_err-atom-clause-exact : goal.returns-in_err-atom-clause-exact
returns-in_err-atom-clause-exact c =
    let p = err_from_is_err_and c.from_residual.result c.from_residual.ensures.1 in
    rw (p.1, p.2)
    (list_fails close_paren_at further_at c.in_err-atom.field-0.0 (c.args.first ∷ []) c.args.tokens.now c.each.rest.now c.each.args c.each.invariant.whole c.in_default.ensures.exact c.in_err-atom.ensures.exact)

pub each-preserved : goal.each-preserved
each-preserved c = record {
  whole = rw c.in_ok-push.ensures.added
      (list_goes_on close_paren_at further_at (c.args.first ∷ []) c.args.tokens.now c.each.rest.now c.each.args (_, c.in_ok-atom.after.now) c.each.invariant.whole c.in_default.ensures.exact c.in_ok-atom.ensures.exact c.in_ok-atom.ensures.shorter);
  shorter = omega (arith, c.in_ok-atom.ensures.shorter, c.each.invariant.shorter);
}
