use Rattle.std.proofs.Common.{arith, refl}
use Rattle.std.proofs.lemmas.Result.{err_from_is_err_and}
use Rattle.qs_conditions.specs.Reading.{chain, sum_further}
use Rattle.qs_conditions.proofs.Chains.{begins, goes_on, closes, sum_fails}
use Rattle.qs_conditions.proofs.values.further.Goals as goal

pub each-init : goal.each-init
each-init c = record { whole = begins sum_further c.args.before c.args.signs.now; within = omega arith }

pub returns-in_default-clause-exact : goal.returns-in_default-clause-exact
returns-in_default-clause-exact c =
    closes sum_further _ c.each.sum c.each.rest.now c.each.invariant.whole (rw c.in_default.ensures.exact refl)

pub returns-in_err-summand-clause-exact : goal.returns-in_err-summand-clause-exact
returns-in_err-summand-clause-exact c =
    let p = err_from_is_err_and c.from_residual.result c.from_residual.ensures.1 in
    rw (p.1, p.2)
    (sum_fails (chain sum_further c.args.before c.args.signs.now) c.each.sum c.each.rest.now c.in-Some.after.now c.in-Some.negative c.in_err-summand.field-0.0 c.each.invariant.whole c.in-Some.ensures.exact c.in_err-summand.ensures.exact)

pub each-preserved : goal.each-preserved
each-preserved c = record {
  whole = rw c.in_ok-push.ensures.added
      (goes_on sum_further _ c.each.sum c.each.rest.now (_, c.in_ok-summand.after.now) c.each.invariant.whole (rw (c.in-Some.ensures.exact, c.in_ok-summand.ensures.exact) refl) (omega (arith, c.in_ok-summand.ensures.shorter, c.in-Some.ensures.shorter)));
  within = omega (arith, c.in_ok-summand.ensures.shorter, c.in-Some.ensures.shorter, c.each.invariant.within);
}
