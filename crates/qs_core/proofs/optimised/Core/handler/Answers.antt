use Rattle.std.proofs.Common.{◌<◌, ap, arith, length, ◌∙◌}
use Rattle.qs_core.specs.parts.CoreHandlers.{core_handler_at}
use Rattle.qs_core.specs.state.CoreState.{CoreState, core_of}
use Rattle.qs_core.proofs.CorePlaces.{mind_is, queue_is}
use Rattle.qs_core.proofs.optimised.Core.handler.Goals as goal

pub handler_at-requires : goal.handler_at-requires
handler_at-requires c =
    record { number = omega (arith, c.requires, c.keeps_machine.ensures.state.handlers, ap length c.handlers.ensures.value, ap (λ (x : CoreState). length x.program.objects) c.self.view_is) }

pub returns : goal.returns
returns c =
    let s = c.self.inside.machine in
    let h = c.args.handler in
    let inside : h < length s.handlers = omega (arith, c.requires, c.keeps_machine.ensures.state.handlers, ap (λ (x : CoreState). length x.program.objects) c.self.view_is) in
    let formed = c.handler_at.ensures.formed ∙ ap (λ hs. core_handler_at hs h) c.handlers.ensures.value in
    record {
      mind = mind_is s c.keeps_machine.ensures.state h inside c.handler_at.result.now formed ∙ ap (λ (x : CoreState). (core_of x).handler h) c.self.view_is;
      tickets = queue_is s c.keeps_machine.ensures.state h inside c.handler_at.result.now formed ∙ ap (λ (x : CoreState). (core_of x).tickets h) c.self.view_is;
    }
