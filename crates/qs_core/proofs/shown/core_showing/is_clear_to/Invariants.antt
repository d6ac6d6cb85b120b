use Rattle.std.proofs.Common.{◌≡◌}
use Rattle.std.specs.List.{range_with_len}
use Rattle.qs_core_laws.specs.audit.CoreSchedule.{all_of}
use Rattle.qs_core.proofs.Names.{lane_at, is_clear, client_part_at}
use Rattle.qs_core.proofs.shown.core_showing.is_clear_to.Given as goal

abbrev pub invariant-loop-number : goal.invariant-loop-number
invariant-loop-number l = l.clear ≡ all_of (λ c. is_clear (lane_at (client_part_at l.clients c).lanes l.handler)) (range_with_len 0 l.number)
