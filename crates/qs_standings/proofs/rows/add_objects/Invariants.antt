use Rattle.std.proofs.Common.{◌≡◌, ◌++◌, flat_map, take}
use Rattle.qs_standings.specs.Standings.{state_row}
use Rattle.qs_standings.proofs.rows.add_objects.Given as goal

abbrev pub invariant-loop-object : goal.invariant-loop-object
invariant-loop-object l = l.row.items ≡ l.initial.row.items ++ flat_map state_row (take l.object-index l.objects)
