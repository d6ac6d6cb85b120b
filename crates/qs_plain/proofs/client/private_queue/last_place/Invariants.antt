use Rattle.std.proofs.Common.{◌≡◌, ◌≤◌, false, drop, length}
use Rattle.qs_played.proofs.Names.{AllByRecursion, same}
use Rattle.qs_plain.specs.client.Queues.{QueueState}
use Rattle.qs_plain.proofs.client.private_queue.last_place.Given as goal

abbrev pub invariant-back : goal.invariant-back
invariant-back l = record {
  within : l.place ≤ length l.queues;
  others : AllByRecursion (λ (q : QueueState). same l.ticket q.queue.ticket ≡ false) (drop l.place l.queues);
}

abbrev pub decreases-back : goal.decreases-back
decreases-back l = l.place
