use Rattle.std.proofs.Common.{◌≡◌, ◌&&◌}
use Rattle.std.specs.List.{range_with_len}
use Rattle.qs_core_laws.specs.audit.CoreSchedule.{all_of}
use Rattle.qs_core.proofs.Names.{is_waiting, core_handler_at, are_clear}
use Rattle.qs_core.proofs.shown.core_showing.are_idle.Given as goal

abbrev pub invariant-loop-number : goal.invariant-loop-number
invariant-loop-number l = l.idle ≡ all_of (λ h. is_waiting (core_handler_at l.handlers h) && are_clear l.clients h) (range_with_len 0 l.number)
