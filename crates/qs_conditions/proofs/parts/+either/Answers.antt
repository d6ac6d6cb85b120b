use Rattle.std.proofs.Common.{◌∙◌, ap, arith, refl, append_assoc, [], ◌∷◌, ◌++◌}
use Rattle.std.proofs.lemmas.Result.{err_from_is_err_and}
use Rattle.qs_conditions.specs.declared.condition.Step.TheVariants.{And, Or, Not}
use Rattle.qs_conditions.specs.Conditions.{negation, both, either, steps_of}
use Rattle.qs_conditions.specs.Reading.{found, and_by, or_by, part_in, both_in}
use Rattle.qs_conditions.proofs.Chains.{added_first, added_more, added_ends, added_fails}
use Rattle.qs_conditions.proofs.parts.+either.Goals as goal

pub both-each-init : goal.both-each-init
both-each-init t c = record {
  added = added_first (part_in c.args.nested) (found and_by) both And (λ c d. refl) _ _ _ _ c.in_ok-rest.ensures.exact;
  shorter = c.in_ok-rest.ensures.shorter;
}

pub both-returns-in_default-clause-exact : goal.both-returns-in_default-clause-exact
both-returns-in_default-clause-exact t c =
    added_ends (part_in c.args.nested) (found and_by) both And (λ c d. refl) _ _ c.each.steps c.each.rest.now c.each.invariant.added c.in_default.ensures.exact

pub both-returns-in_err-rest-2-clause-exact : goal.both-returns-in_err-rest-2-clause-exact
both-returns-in_err-rest-2-clause-exact t c =
    let p = err_from_is_err_and c.from_residual-in_err-rest-2.result c.from_residual-in_err-rest-2.ensures.1 in
    rw (p.1, p.2)
    (added_fails (part_in c.args.nested) (found and_by) both And (λ c d. refl) _ _ c.each.steps c.each.rest.now c.in-Some.after.now c.in_err-rest-2.field-0.0 c.each.invariant.added c.in-Some.ensures.exact c.in_err-rest-2.ensures.exact)

pub both-each-preserved : goal.both-each-preserved
both-each-preserved t c = record {
  added = added_more (part_in c.args.nested) (found and_by) both And (λ c d. refl) _ _ c.each.steps c.part-in-each.new.steps c.push.new.self c.each.rest.now c.in-Some.after.now c.in_ok-rest-2.rest.now c.in_ok-rest-2.ensures.exact.0
      c.each.invariant.added c.in-Some.ensures.exact c.in_ok-rest-2.ensures.exact.1 (omega (arith, c.in_ok-rest-2.ensures.shorter, c.in-Some.ensures.shorter)) c.in_ok-rest-2.ensures.exact.2 c.in_ok-push.ensures.added;
  shorter = omega (arith, c.in_ok-rest-2.ensures.shorter, c.in-Some.ensures.shorter, c.each.invariant.shorter);
}

pub either-each-init : goal.either-each-init
either-each-init t c = record {
  added = added_first (both_in c.args.nested) (found or_by) either Or (λ c d. refl) _ _ _ _ c.in_ok-rest.ensures.exact;
  shorter = c.in_ok-rest.ensures.shorter;
}

pub either-returns-in_default-clause-exact : goal.either-returns-in_default-clause-exact
either-returns-in_default-clause-exact t c =
    added_ends (both_in c.args.nested) (found or_by) either Or (λ c d. refl) _ _ c.each.steps c.each.rest.now c.each.invariant.added c.in_default.ensures.exact

pub either-returns-in_err-rest-2-clause-exact : goal.either-returns-in_err-rest-2-clause-exact
either-returns-in_err-rest-2-clause-exact t c =
    let p = err_from_is_err_and c.from_residual-in_err-rest-2.result c.from_residual-in_err-rest-2.ensures.1 in
    rw (p.1, p.2)
    (added_fails (both_in c.args.nested) (found or_by) either Or (λ c d. refl) _ _ c.each.steps c.each.rest.now c.in-Some.after.now c.in_err-rest-2.field-0.0 c.each.invariant.added c.in-Some.ensures.exact c.in_err-rest-2.ensures.exact)

pub either-each-preserved : goal.either-each-preserved
either-each-preserved t c = record {
  added = added_more (both_in c.args.nested) (found or_by) either Or (λ c d. refl) _ _ c.each.steps c.both-in-each.new.steps c.push.new.self c.each.rest.now c.in-Some.after.now c.in_ok-rest-2.rest.now c.in_ok-rest-2.ensures.exact.0
      c.each.invariant.added c.in-Some.ensures.exact c.in_ok-rest-2.ensures.exact.1 (omega (arith, c.in_ok-rest-2.ensures.shorter, c.in-Some.ensures.shorter)) c.in_ok-rest-2.ensures.exact.2 c.in_ok-push.ensures.added;
  shorter = omega (arith, c.in_ok-rest-2.ensures.shorter, c.in-Some.ensures.shorter, c.each.invariant.shorter);
}

pub negation-returns-clause-exact : goal.negation-returns-clause-exact
negation-returns-clause-exact t c = (negation c.in_ok-rest.ensures.exact.0, rw c.in_ok-rest.ensures.exact.1 refl, c.in_ok-push.ensures.added ∙ ap (λ xs. xs ++ Not ∷ []) c.in_ok-rest.ensures.exact.2 ∙ append_assoc c.args.steps.now (steps_of c.in_ok-rest.ensures.exact.0) (Not ∷ []))
