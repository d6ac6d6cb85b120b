-- The anchors of the names before this one are there.
use Rattle.std.proofs.Common.{◌≡◌, ◌++◌, map, take}
use Rattle.qs_check.specs.declared.anchors.anchor.Anchor.TheVariants.{Listed}
use Rattle.qs_check.proofs.anchors.anchors.put_list.Given as goal

abbrev pub invariant-loop-name : goal.invariant-loop-name
invariant-loop-name l = l.out.items ≡ l.initial.out.items ++ map Listed (take l.name-index l.names)
