-- The walk over the anchors that are left ends as the walk over all of them does.
use Rattle.std.proofs.Common.{◌≡◌, drop}
use Rattle.qs_check.specs.anchors.Anchored.{scope_or_anchored}
use Rattle.qs_check.proofs.anchors.finding.walk.Given as goal

abbrev pub invariant-loop-anchor : goal.invariant-loop-anchor
invariant-loop-anchor l =
    scope_or_anchored l.fn.scope l.fn.from (drop l.fn.from l.anchors) ≡ scope_or_anchored l.scope l.anchor (drop l.anchor l.anchors)
