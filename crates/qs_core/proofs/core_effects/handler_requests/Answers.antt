use Rattle.std.proofs.Common.{◌≡◌, length, sym, ap, subst, ◌∙◌, arith}
use Rattle.std.specs.Prelude.{IfOk}
use Rattle.qs_handler.specs.audit.Handler.{act_of}
use Rattle.qs_core.proofs.Names.{first_requests, CoreHandlerState, core_handler_at, handler_with_act, turns_to, lane_at, ClientPart, client_part_at, TurnsTo}
use Rattle.qs_core.proofs.CoreEffects.{requests_taken}
use Rattle.qs_core.proofs.CoreFieldLemmas.{client_here}
use Rattle.qs_core.proofs.shown.CoreShowing.{turned_inside}
use Rattle.qs_core.proofs.core_effects.handler_requests.Goals as goal

pub index_mut-client-requires : goal.index_mut-client-requires
index_mut-client-requires c =
    let inside = turned_inside c.args.clients.now.items c.args.number c.handler_at-handler.result.now c.handler_at-handler.ensures.kept (subst (TurnsTo c.args.clients.now.items) (sym c.handler_at-handler.ensures.formed) c.requires.turns) _
    (sym (ap turns_to (sym c.act.ensures.value ∙ c.in-TakeParcel.is))) in
    omega (arith, inside, c.from.ensures, c.args.clients.now.ok)

pub lane_requests-requires : goal.lane_requests-requires
lane_requests-requires c =
    let inside = turned_inside c.args.clients.now.items c.args.number c.handler_at-handler.result.now c.handler_at-handler.ensures.kept (subst (TurnsTo c.args.clients.now.items) (sym c.handler_at-handler.ensures.formed) c.requires.turns) _
    (sym (ap turns_to (sym c.act.ensures.value ∙ c.in-TakeParcel.is))) in
    let here = client_here c.args.clients.now.items _ c.from.result c.index_mut-client.result.now c.from.ensures inside c.index_mut-client.ensures.value in
    omega (arith, c.requires.lanes _ inside, ap (λ (x : ClientPart). length x.lanes) here)

pub returns-in-TakeParcel-clause-value : goal.returns-in-TakeParcel-clause-value
returns-in-TakeParcel-clause-value c =
    let inside = turned_inside c.args.clients.now.items c.args.number c.handler_at-handler.result.now c.handler_at-handler.ensures.kept (subst (TurnsTo c.args.clients.now.items) (sym c.handler_at-handler.ensures.formed) c.requires.turns) _
    (sym (ap turns_to (sym c.act.ensures.value ∙ c.in-TakeParcel.is))) in
    let here = client_here c.args.clients.now.items _ c.from.result c.index_mut-client.result.now c.from.ensures inside c.index_mut-client.ensures.value in
    let act = ap (λ (x : CoreHandlerState). act_of (handler_with_act x)) (sym c.handler_at-handler.ensures.formed) ∙ sym c.handler_at-handler.ensures.kept.act ∙ sym c.act.ensures.value ∙ c.in-TakeParcel.is in
    subst (λ rs. IfOk c.lane_requests.result (λ requests. requests.items ≡ rs))
    (sym (requests_taken (λ n. (lane_at (client_part_at c.args.clients.now.items n).lanes c.args.number).down) (handler_with_act (core_handler_at c.args.handlers.now c.args.number)) _ act ∙ ap (λ (x : ClientPart). first_requests (lane_at x.lanes c.args.number).down) here)) c.lane_requests.ensures.value
