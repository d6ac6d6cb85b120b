-- With the anchors of the objects that are left, all anchors are there.
use Rattle.std.proofs.Common.{◌≡◌, ◌++◌, drop}
use Rattle.qs_check.specs.anchors.Anchors.{given_anchors}
use Rattle.qs_check.proofs.anchors.anchors.put_given.Given as goal

abbrev pub invariant-loop-object : goal.invariant-loop-object
invariant-loop-object l = record {
  place : l.place ≡ l.object-index;
  anchors : l.out.items ++ given_anchors l.template l.object-index (drop l.object-index l.objects) ≡ l.initial.out.items ++ given_anchors l.template 0 l.objects;
}
