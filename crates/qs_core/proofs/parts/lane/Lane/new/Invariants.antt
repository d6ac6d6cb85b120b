use Rattle.std.proofs.Common.{◌≡◌, ◌≤◌, [], replicate}
use Rattle.std.specs.VecDeque.{deque_len, deque_capacity}
use Rattle.qs_chunk.specs.audit.Batch.{batch}
use Rattle.qs_core.proofs.parts.lane.Lane.new.Given as goal

abbrev pub invariant-loop-chunk : goal.invariant-loop-chunk
invariant-loop-chunk l = record {
  chunks : l.spare.items ≡ replicate l._chunk (batch [] l.size);
  len : deque_len l.spare ≡ l._chunk;
  room : 4 ≤ deque_capacity l.spare;
}
