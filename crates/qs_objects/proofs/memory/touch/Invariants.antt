use Rattle.std.proofs.Common.{◌≡◌, length, vec_capacity}
use Rattle.qs_objects.proofs.memory.touch.Given as goal

abbrev pub invariant-loop-value : goal.invariant-loop-value
invariant-loop-value g l = record {
  written : length l.items.items ≡ l._value;
  capacity : vec_capacity l.items ≡ vec_capacity l.initial.items;
}
