-- The walk over the items that are left ends as the walk over all of them does.
use Rattle.std.proofs.Common.{◌≡◌, drop, length}
use Rattle.qs_check.specs.anchors.Anchored.{items_anchored}
use Rattle.qs_check.proofs.anchors.finding.walk_items.Given as goal

abbrev pub invariant-loop-item : goal.invariant-loop-item
invariant-loop-item l = items_anchored l.initial.scope 0 l.items ≡ items_anchored l.scope (length l.anchors.items) (drop l.item-index l.items)
