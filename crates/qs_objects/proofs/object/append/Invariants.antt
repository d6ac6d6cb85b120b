use Rattle.std.proofs.Common.{◌≡◌, ◌++◌, take, deque_capacity}
use Rattle.qs_objects.proofs.object.append.Given as goal

abbrev pub invariant-loop-value : goal.invariant-loop-value
invariant-loop-value l = record {
  appended : l.queue.items ≡ l.fn.queue.items ++ take l.value-index l.values;
  capacity : deque_capacity l.queue ≡ deque_capacity l.fn.queue;
}
