use Rattle.std.proofs.Common.{◌≡◌, ◌≤◌, ◌*◌, sum_by}
use Rattle.std.specs.List.{range_with_len}
use Rattle.qs_core.proofs.Names.{most_syncs, client_part_at}
use Rattle.qs_core.proofs.shown.core_showing.syncs.Given as goal

abbrev pub invariant-loop-number : goal.invariant-loop-number
invariant-loop-number l = record {
  value : l.syncs ≡ sum_by (λ c. (client_part_at l.clients c).mind.syncs) (range_with_len 0 l.number);
  limit : l.syncs ≤ l.number * most_syncs;
}
