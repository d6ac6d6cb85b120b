use Rattle.std.proofs.Common.{◌<◌, ◌∙◌, ap, arith, length, refl}
use Rattle.qs_core.specs.state.CoreState.{CoreState}
use Rattle.qs_core.proofs.CoreBlocks.{begun_is}
use Rattle.qs_core.proofs.optimised.Core.begun.Goals as goal

pub begun-requires : goal.begun-requires
begun-requires c = omega (arith, c.requires, c.keeps_machine.ensures.state.clients, ap (λ (x : CoreState). length x.program.clients) c.self.view_is)

pub returns : goal.returns
returns c = record {
  value = c.begun.ensures.value ∙ begun_is c.self.inside.machine c.args.self.now c.args.client c.self.view_is;
}
