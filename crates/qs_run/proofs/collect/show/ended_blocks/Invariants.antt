-- The blocks so far have ended.
use Rattle.std.proofs.Common.{◌≡◌, true, map, take, vec_capacity}
use Rattle.qs_run.proofs.collect.show.ended_blocks.Given as goal

abbrev pub invariant-loop-ticket : goal.invariant-loop-ticket
invariant-loop-ticket l = record {
  ended : l.ended.items ≡ map (λ t. true) (take l._ticket-index l.order);
  room : vec_capacity l.ended ≡ vec_capacity l.initial.ended;
}
