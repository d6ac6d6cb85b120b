-- The anchors of the formals before this one are there.
use Rattle.std.proofs.Common.{◌≡◌, ◌++◌, map, take}
use Rattle.qs_check.specs.anchors.Anchors.{formal_anchor}
use Rattle.qs_check.proofs.anchors.anchors.put_formals.Given as goal

abbrev pub invariant-loop-formal : goal.invariant-loop-formal
invariant-loop-formal l = l.out.items ≡ l.initial.out.items ++ map formal_anchor (take l.formal-index l.formals)
