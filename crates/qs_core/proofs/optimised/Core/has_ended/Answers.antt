use Rattle.std.proofs.Common.{◌<◌, ◌∙◌, ap, arith, length, refl}
use Rattle.qs_core.specs.state.CoreState.{CoreState}
use Rattle.qs_core.proofs.CoreBlocks.{ended_by_stage}
use Rattle.qs_core.proofs.optimised.Core.has_ended.Goals as goal

pub has_ended-requires : goal.has_ended-requires
has_ended-requires c = omega (arith, c.requires, c.keeps_machine.ensures.state.clients, ap (λ (x : CoreState). length x.program.clients) c.self.view_is)

pub returns : goal.returns
returns c = record {
  value = ended_by_stage c.self.inside.machine c.args.self.now c.args.client c.args.index c.args.index c.has_ended.result c.self.view_is refl c.has_ended.ensures.value;
}
