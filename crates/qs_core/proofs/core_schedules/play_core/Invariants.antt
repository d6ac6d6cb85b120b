use Rattle.std.proofs.Common.{take}
use Rattle.qs_core.specs.state.CoreState.{IsPlayedOn}
use Rattle.qs_core.proofs.core_schedules.play_core.Given as goal

abbrev pub invariant-loop-pick : goal.invariant-loop-pick
invariant-loop-pick l = IsPlayedOn l.program l.fn.mode l.fn.size (take l.pick-index l.picks) l.core
