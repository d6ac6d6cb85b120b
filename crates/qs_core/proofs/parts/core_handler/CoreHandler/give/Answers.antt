use Rattle.std.proofs.Common.{◌≡◌, None, Some, Option, rules, ap, sym, ◌∙◌}
use Rattle.qs_objects.specs.audit.Journals.{HeldState}
use Rattle.qs_handler.specs.audit.Handler.{act_of, gave}
use Rattle.qs_handler.specs.declared.mind.Act.{Act}
use Rattle.qs_core.proofs.Names.{CoreHandlerState, gives_up, handler_with_act, lane_step_of_handler, LaneState}
use Rattle.qs_core.specs.contracts.parts.core_handler.CoreHandler.{the_view}
use Rattle.qs_core.proofs.parts.HandlerGifts.{given_next, given_rests}
use Rattle.qs_core.proofs.parts.core_handler.CoreHandler.give.Goals as goal

pub returns-clause-steps : goal.returns-clause-steps
returns-clause-steps c =
    let none : c.args.lane.now.up ≡ None = search rules in
    rw (← c.self.view_is)
    (
    let s : CoreHandlerState = the_view c.self.inside in
    let l = c.args.lane.now in
    let x = c.replace_with-held.result in
    let kept = c.self.invariant.0 in
    let (client, asked, next) = c.replace_with-held.ensures in
    let mind = given_rests s.mind s.act client x asked kept.act kept.mind ∙ ap gave kept.mind in
    let act = next ∙ given_next s.mind s.act client x asked kept.act kept.mind ∙ ap act_of kept.mind in (
      gave (handler_with_act s),
      ap (λ (a : Act). lane_step_of_handler (handler_with_act s) a l) asked
          ∙ ap (λ (o : Option HeldState). gives_up (handler_with_act s) x l o) none
          ∙ ap (λ (k : LaneState). Some (gave (handler_with_act s), k)) (sym c.put_object.ensures.put),
      λ i. record { mind = mind i; act = act i; tickets = s.tickets; room = s.room },
    )
    )
