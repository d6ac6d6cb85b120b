-- The values before this one are there.
use Rattle.std.proofs.Common.{◌≡◌, ◌++◌, flat_map, take}
use Rattle.qs_report.specs.ValuesText.{value_line}
use Rattle.qs_report.proofs.values.put_values.Given as goal

abbrev pub invariant-loop-value : goal.invariant-loop-value
invariant-loop-value l = l.out.items ≡ l.initial.out.items ++ flat_map (value_line l.ends) (take l.value-index l.values)
