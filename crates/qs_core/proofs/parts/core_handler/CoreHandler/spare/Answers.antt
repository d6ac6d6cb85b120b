use Rattle.std.proofs.Common.{◌≡◌, ◌∷◌, ◌++◌, [], Bool, true, if◌then◌else◌, nat_lt, length, None, Some, rules, ap, sym, ◌∙◌}
use Rattle.qs_handler.specs.audit.Handler.{act_of, gave}
use Rattle.qs_handler.specs.declared.mind.Act.{Act}
use Rattle.qs_core.specs.parts.CoreHandlers.{CoreHandlerState, handler_with_act, lane_step_of_handler}
use Rattle.qs_core.specs.parts.LaneStates.{LaneState, with_spare}
use Rattle.qs_core.specs.contracts.parts.core_handler.CoreHandler.{the_view}
use Rattle.qs_core.proofs.parts.HandlerGifts.{spared_next, spared_rests}
use Rattle.qs_core.proofs.parts.core_handler.CoreHandler.spare.Goals as goal

pub returns-clause-steps : goal.returns-clause-steps
returns-clause-steps c =
    let room : nat_lt (length c.args.lane.now.spare) 4 ≡ true = search rules in
    rw (← c.self.view_is)
    (
    let s : CoreHandlerState = the_view c.self.inside in
    let l = c.args.lane.now in
    let x = c.replace_with-chunk.result in
    let kept = c.self.invariant.0 in
    let (client, asked, next) = c.replace_with-chunk.ensures in
    let mind = spared_rests s.mind s.act client x asked kept.act kept.mind ∙ ap gave kept.mind in
    let act = next ∙ spared_next s.mind s.act client x asked kept.act kept.mind ∙ ap act_of kept.mind in (
      gave (handler_with_act s),
      ap (λ (a : Act). lane_step_of_handler (handler_with_act s) a l) asked
          ∙ ap (λ (b : Bool). if b then Some (gave (handler_with_act s), with_spare l (l.spare ++ x ∷ [])) else None) room
          ∙ ap (λ (k : LaneState). Some (gave (handler_with_act s), k)) (sym c.put_chunk.ensures.put),
      λ i. record { mind = mind i; act = act i; tickets = s.tickets; room = s.room },
    )
    )
