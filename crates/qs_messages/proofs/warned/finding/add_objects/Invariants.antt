-- The warnings of the objects before this one are there.
use Rattle.std.proofs.Common.{◌≡◌, ◌++◌, flat_map}
use Rattle.qs_messages.specs.Warnings.{below, object_warnings}
use Rattle.qs_messages.proofs.warned.finding.add_objects.Given as goal

abbrev pub invariant-loop-object : goal.invariant-loop-object
invariant-loop-object l = l.out.items ≡ l.initial.out.items ++ flat_map (object_warnings l.program) (below l.object)
