use Rattle.std.proofs.Common.{◌≡◌, ℕ, map, length}
use Rattle.qs_plain.proofs.Names.{QueueState, CanEnterAll, entered_all}
use Rattle.qs_plain.proofs.handler.handlers.enter_all.Given as goal

abbrev pub invariant-each : goal.invariant-each
invariant-each l = record {
  value : entered_all l.handlers.items l.queues.items ≡ entered_all l.initial.handlers.items l.initial.queues.items;
  can : CanEnterAll l.handlers.items (map (λ (q : ℕ × QueueState). q.0) l.queues.items);
}

abbrev pub decreases-each : goal.decreases-each
decreases-each l = length l.queues.items
