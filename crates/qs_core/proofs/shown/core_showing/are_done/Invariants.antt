use Rattle.std.proofs.Common.{◌≡◌}
use Rattle.std.specs.List.{range_with_len}
use Rattle.qs_core_laws.specs.audit.CoreSchedule.{all_of}
use Rattle.qs_core.proofs.Names.{is_through, client_part_at}
use Rattle.qs_core.proofs.shown.core_showing.are_done.Given as goal

abbrev pub invariant-loop-number : goal.invariant-loop-number
invariant-loop-number l = l.done ≡ all_of (λ c. is_through (client_part_at l.clients c).mind) (range_with_len 0 l.number)
