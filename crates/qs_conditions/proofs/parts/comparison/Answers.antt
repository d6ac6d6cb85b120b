use Rattle.std.proofs.Common.{refl}
use Rattle.qs_conditions.specs.Conditions.{compare}
use Rattle.qs_conditions.proofs.parts.comparison.Goals as goal

pub returns-clause-exact : goal.returns-clause-exact
returns-clause-exact c =
    (compare c.in_ok-left.left c.in_ok-relation.relation c.in_ok-right.right, rw (c.in_ok-left.ensures.exact, c.in_ok-relation.ensures.exact, c.in_ok-right.ensures.exact) refl, c.in_ok-push.ensures.added)
