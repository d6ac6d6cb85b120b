-- The anchors of the values before this one are there.
use Rattle.std.proofs.Common.{◌≡◌, ◌++◌, map, take}
use Rattle.qs_check.specs.anchors.Anchors.{atom_anchor}
use Rattle.qs_check.proofs.anchors.anchors.put_atoms.Given as goal

abbrev pub invariant-loop-atom : goal.invariant-loop-atom
invariant-loop-atom l = l.out.items ≡ l.initial.out.items ++ map atom_anchor (take l.atom-index l.atoms)
