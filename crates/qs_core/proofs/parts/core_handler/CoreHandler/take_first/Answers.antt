use Rattle.std.proofs.Common.{ap, sym, subst, ◌∙◌}
use Rattle.qs_core.proofs.Names.{CoreHandlerState, MayCome, LaneState}
use Rattle.qs_core.proofs.parts.HandlerFronts.{first_may_stand}
use Rattle.qs_core.proofs.parts.core_handler.CoreHandler.take_first.Goals as goal

pub parcel_into-requires-clause-stands : goal.parcel_into-requires-clause-stands
parcel_into-requires-clause-stands c =
    let s : CoreHandlerState = record { mind = c.self.inside.mind; act = c.self.inside.act; tickets = c.self.inside.tickets.items; room = c.self.inside.room } in
    let comes = subst (λ x. MayCome x c.args.lane.now) (sym c.self.view_is) c.requires.comes in
    let asked = ap (λ (x : CoreHandlerState). x.act) c.self.view_is ∙ c.requires.asked.1 in
    first_may_stand s c.args.lane.now c.requires.asked.0 c.in-Some.parcel _ comes asked (ap (λ (l : LaneState). l.down) c.in-Some.ensures.cases)
