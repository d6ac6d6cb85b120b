use Rattle.std.proofs.Common.{◌≡◌, ◌++◌, take}
use Rattle.qs_objects.specs.audit.Objects.{values_of}
use Rattle.qs_standings.proofs.rows.add_object_values.Given as goal

abbrev pub invariant-loop-place : goal.invariant-loop-place
invariant-loop-place l = l.row.items ≡ l.initial.row.items ++ take l.place (values_of l.object.content)
