use Rattle.std.proofs.Common.{◌≡◌, true, ap, ◌∙◌}
use Rattle.qs_handler.specs.audit.Handler.{act_of}
use Rattle.qs_core.specs.parts.CoreHandlers.{CoreHandlerState, takes_ticket}
use Rattle.qs_core.proofs.parts.HandlerFronts.{free_behind}
use Rattle.qs_core.proofs.parts.core_handler.CoreHandler.into_held.Goals as goal

pub ticket-requires : goal.ticket-requires
ticket-requires c =
    let takes : takes_ticket c.self.inside.act ≡ true = ap (λ (s : CoreHandlerState). takes_ticket s.act) c.self.view_is ∙ c.requires.free in
    record { asked = ap act_of (free_behind c.self.inside.mind c.self.inside.act takes c.self.invariant.0.act).1 }
