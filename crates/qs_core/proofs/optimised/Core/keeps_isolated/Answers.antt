use Rattle.std.proofs.Common.{subst}
use Rattle.qs_program.specs.Sound.{IsSound}
use Rattle.qs_core.specs.state.CoreState.{CoreIsIsolated}
use Rattle.qs_core.proofs.state.CoreReaching.{core_is_isolated}
use Rattle.qs_core.proofs.optimised.Core.keeps_isolated.Goals as goal

pub returns : goal.returns
returns c =
    record { isolated = subst CoreIsIsolated c.self.view_is (core_is_isolated c.self.inside.machine (subst IsSound c.program.ensures.value c.keeps_sound.ensures.sound) c.keeps_machine.ensures.state c.self.invariant.0) }
