use Rattle.std.proofs.Common.{◌≡◌, ◌*◌, drop, ◌+ℤ◌, ◌-ℤ◌, ◌≤ℤ◌, pos}
use Rattle.qs_objects.specs.audit.Act.{exact_sum}
use Rattle.qs_objects.proofs.grid.clamped_sum.Given as goal

abbrev pub invariant-loop-value : goal.invariant-loop-value
invariant-loop-value l = record {
  whole : l.sum +ℤ exact_sum (drop l.value-index l.values) ≡ exact_sum l.values;
  above : (pos 0 -ℤ pos (l.value-index * 9223372036854775808)) ≤ℤ l.sum;
  below : l.sum ≤ℤ pos (l.value-index * 9223372036854775808);
}
