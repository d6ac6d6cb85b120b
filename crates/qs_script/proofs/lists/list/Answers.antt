use Rattle.std.proofs.Common.{arith}
use Rattle.std.proofs.lemmas.Result.{err_from_is_err_and}
use Rattle.qs_script.specs.grammar.Reading.{list_loop}
use Rattle.qs_script.proofs.Loops.{begins, list_goes_on, list_lawful, closes, list_fails}
use Rattle.qs_script.proofs.lists.list.Goals as goal

pub each-init : goal.each-init
each-init g c = record { whole = begins (list_loop g.L.Listing.stop_at g.L.Listing.element_at) c.args.before.items c.args.tokens.now; shorter = omega arith }

pub returns-in-Some-clause-exact : goal.returns-in-Some-clause-exact
returns-in-Some-clause-exact g c =
    closes (list_loop g.L.Listing.stop_at g.L.Listing.element_at) (list_lawful g.L.Listing.stop_at g.L.Listing.element_at) c.args.before.items c.args.tokens.now c.each.rest.now c.in-Some.after.now c.each.list.items c.each.invariant.whole c.in-Some.ensures.exact

pub returns-in_err-element-clause-exact : goal.returns-in_err-element-clause-exact
returns-in_err-element-clause-exact g c =
    let p = err_from_is_err_and c.from_residual.result c.from_residual.ensures.1 in
    rw (p.1, p.2)
    (list_fails g.L.Listing.stop_at g.L.Listing.element_at c.in_err-element.field-0.0 c.args.before.items c.args.tokens.now c.each.rest.now c.each.list.items c.each.invariant.whole c.in_default.ensures.exact c.in_err-element.ensures.exact)

pub each-preserved : goal.each-preserved
each-preserved g c = record {
  whole = rw c.in_ok-add.ensures.added
      (list_goes_on g.L.Listing.stop_at g.L.Listing.element_at c.args.before.items c.args.tokens.now c.each.rest.now c.each.list.items (_, c.in_ok-element.after.now) c.each.invariant.whole c.in_default.ensures.exact c.in_ok-element.ensures.exact c.in_ok-element.ensures.shorter);
  shorter = omega (arith, c.in_ok-element.ensures.shorter, c.each.invariant.shorter);
}
