-- The targets before this one are there, each after a space.
use Rattle.std.proofs.Common.{◌≡◌, ◌++◌, codes, flat_map, take}
use Rattle.std.specs.Prelude.{decimal}
use Rattle.qs_report.proofs.graphs.put_targets.Given as goal

abbrev pub invariant-loop-target : goal.invariant-loop-target
invariant-loop-target l = l.out.items ≡ l.initial.out.items ++ flat_map (λ target. codes " " ++ decimal target) (take l.target-index l.targets)
