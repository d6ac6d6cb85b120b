use Rattle.std.proofs.Common.{subst}
use Rattle.qs_program.specs.Sound.{IsSound}
use Rattle.qs_core.proofs.state.CoreReaching.{core_keeps}
use Rattle.qs_core.proofs.optimised.Core.next_effect.Goals as goal

pub next_effect-requires : goal.next_effect-requires
next_effect-requires c = record { keeps = core_keeps c.self.inside.machine (subst IsSound c.program.ensures.value c.keeps_sound.ensures.sound) c.keeps_machine.ensures.state c.self.invariant.0 }
