use Rattle.std.proofs.Common.{subst}
use Rattle.qs_program.specs.Sound.{IsSound}
use Rattle.qs_core.specs.state.CoreState.{CoreIsIsolated, CoreIsCounted}
use Rattle.qs_core.proofs.CoreCounted.{core_is_counted}
use Rattle.qs_core.proofs.state.CoreReaching.{core_is_isolated, core_keeps}
use Rattle.qs_core.proofs.optimised.Core.into_played.Goals as goal

pub into_played-requires : goal.into_played-requires
into_played-requires c = record { keeps = core_keeps c.self.inside.machine (subst IsSound c.program.ensures.value c.keeps_sound.ensures.sound) c.keeps_machine.ensures.state c.self.invariant.0 }

pub returns-clause-isolated : goal.returns-clause-isolated
returns-clause-isolated c = subst CoreIsIsolated c.self.view_is (core_is_isolated c.self.inside.machine (subst IsSound c.program.ensures.value c.keeps_sound.ensures.sound) c.keeps_machine.ensures.state c.self.invariant.0)

pub returns-clause-counted : goal.returns-clause-counted
returns-clause-counted c = subst CoreIsCounted c.self.view_is (core_is_counted c.self.inside.machine (subst IsSound c.program.ensures.value c.keeps_sound.ensures.sound) c.self.invariant.0)
