use Rattle.std.proofs.Common.{subst}
use Rattle.qs_program.specs.Sound.{IsSound}
use Rattle.qs_core.specs.state.CoreState.{CoreIsCounted}
use Rattle.qs_core.proofs.CoreCounted.{core_is_counted}
use Rattle.qs_core.proofs.optimised.Core.keeps_counted.Goals as goal

pub returns : goal.returns
returns c =
    record { counted = subst CoreIsCounted c.self.view_is (core_is_counted c.self.inside.machine (subst IsSound c.program.ensures.value c.keeps_sound.ensures.sound) c.self.invariant.0) }
