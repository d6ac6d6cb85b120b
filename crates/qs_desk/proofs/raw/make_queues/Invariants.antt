use Rattle.std.proofs.Common.{◌≡◌, ℕ, ◌<◌, length, map}
use Rattle.qs_desk.specs.TicketQueues.{queue_at, queue_name, IsNewQueue, end_at}
use Rattle.qs_desk.specs.Places.{places}
use Rattle.qs_desk.proofs.raw.make_queues.Given as goal

abbrev pub invariant-loop-handler : goal.invariant-loop-handler
invariant-loop-handler l =
    record {
      len : length l.senders.items ≡ l.handler;
      senders : (h : ℕ) → h < length l.senders.items → IsNewQueue l.program h (queue_at l.senders.items h);
      ends : l.ends ≡ map (end_at l.program (map queue_name l.senders.items)) places;
    }
