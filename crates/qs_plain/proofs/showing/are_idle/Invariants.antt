use Rattle.std.proofs.Common.{◌≡◌, ◌&&◌, map, drop}
use Rattle.qs_plain_laws.specs.audit.PlainSchedule.{all_idle}
use Rattle.qs_plain.specs.handler.Served.{handler_of_state}
use Rattle.qs_plain.proofs.showing.are_idle.Given as goal

abbrev pub invariant-loop-handler : goal.invariant-loop-handler
invariant-loop-handler l = (l.idle && all_idle (map handler_of_state (drop l.handler-index l.handlers))) ≡ all_idle (map handler_of_state l.handlers)
