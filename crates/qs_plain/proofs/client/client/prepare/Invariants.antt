use Rattle.std.proofs.Common.{◌≡◌, ◌≤◌, ℕ, ◌+◌, ◌-◌, length, map, take}
use Rattle.std.specs.VecDeque.{deque_len, deque_capacity}
use Rattle.qs_played.proofs.Names.{AllByRecursion, block_at}
use Rattle.qs_plain.proofs.Names.{QueueState, IsReadyQueue}
use Rattle.qs_plain.proofs.client.client.prepare.Given as goal

abbrev pub invariant-loop-object : goal.invariant-loop-object
invariant-loop-object l = record {
  objects : map (λ (q : ℕ × QueueState). q.0) l.queues.items ≡ take l.object-index l.reserved;
  queues : AllByRecursion (IsReadyQueue l.number l.index (block_at l.program l.number l.index)) l.queues.items;
  room : deque_len l.queues + (length l.reserved - l.object-index) ≤ deque_capacity l.queues;
}
