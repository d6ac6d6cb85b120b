use Rattle.std.proofs.Common.{subst}
use Rattle.qs_program.specs.Sound.{IsSound}
use Rattle.qs_core.proofs.state.CoreReaching.{core_keeps}
use Rattle.qs_core.proofs.optimised.Core.requests.Goals as goal

pub requests-requires : goal.requests-requires
requests-requires c = record { keeps = core_keeps c.self.inside.machine (subst IsSound c.program.ensures.value c.keeps_sound.ensures.sound) c.keeps_machine.ensures.state c.self.invariant.0 }
