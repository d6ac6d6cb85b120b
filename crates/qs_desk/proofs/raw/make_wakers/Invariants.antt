use Rattle.std.proofs.Common.{◌≡◌, map, take}
use Rattle.qs_desk.specs.TicketQueues.{queue_name}
use Rattle.qs_desk.proofs.raw.make_wakers.Given as goal

abbrev pub invariant-loop-sender : goal.invariant-loop-sender
invariant-loop-sender l = l.wakers.items ≡ map queue_name (take l.sender-index l.senders)
