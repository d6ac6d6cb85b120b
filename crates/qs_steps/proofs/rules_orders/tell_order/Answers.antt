use Rattle.std.proofs.Common.{◌∙◌, ◌∷◌, ◌+◌, [], ap, drop, get_or, subst, sym}
use Rattle.qs_steps.proofs.Names.{drop_all, from_here, order_of, rules_view}
use Rattle.qs_plain_laws.proofs.Names.{played_of, IsPlayedInOrder}
use Rattle.qs_plain.proofs.Names.{RulesState, plain_of}
use Rattle.qs_plain.proofs.Blocks.{ArePlayed, all_played, next_left, one_more, played_first}
use Rattle.qs_steps.proofs.OrdersTold.{gone_join, gone_none, rules_order_told}
use Rattle.qs_steps.proofs.rules_orders.tell_order.Goals as goal
use Rattle.qs_steps.proofs.rules_orders.tell_order.Goals.{After-into_told, In-loop-client}

-- the client at this place, and those after it
now_played : (c : In-loop-client) → ArePlayed c.args.program.now c.args.clients.now
    (get_or c.args.clients.now c.loop-client.client-index 0 ∷ drop (c.loop-client.client-index + 1) c.args.clients.now) c.loop-client.rules
now_played c = subst (λ rest. ArePlayed c.args.program.now c.args.clients.now rest c.loop-client.rules)
    (from_here c.args.clients.now c.loop-client.client-index c.loop-client-test.true) c.loop-client.invariant.played

-- all were played
whole : (c : After-into_told) → ArePlayed c.args.program.now c.args.clients.now [] c.loop-client.rules
whole c = subst (λ rest. ArePlayed c.args.program.now c.args.clients.now rest c.loop-client.rules)
    (drop_all c.loop-client.client-index c.args.clients.now c.loop-client-test.false) c.loop-client.invariant.played

pub loop-client-init : goal.loop-client-init
loop-client-init c = record {
  played = played_first c.args.program.now c.args.clients.now c.in_ok-rules.rules c.in_ok-rules.ensures.fresh.0 c.in_ok-rules.ensures.fresh.1;
  told = gone_none rules_view c.args.program.now c.new-lines.result c.in_ok-rules.rules;
}

pub put_block-requires-clause-left : goal.put_block-requires-clause-left
put_block-requires-clause-left c =
    let a = (goal.at.put_block-requires-clause-left c).In-loop-client in
    next_left c.args.program.now c.args.clients.now (get_or c.args.clients.now c.loop-client.client-index 0) (drop (c.loop-client.client-index + 1) c.args.clients.now)
    c.loop-client.rules (now_played a) c.requires.legal

pub loop-client-preserved : goal.loop-client-preserved
loop-client-preserved c =
    let a = (goal.at.loop-client-preserved c).In-loop-client in
    let next = c.put_block.new.rules in
    record {
      played = one_more c.args.program.now c.args.clients.now (get_or c.args.clients.now c.loop-client.client-index 0) (drop (c.loop-client.client-index + 1) c.args.clients.now)
          c.loop-client.rules (now_played a) next c.in_ok-put_block.ensures.on;
      told = gone_join rules_view c.args.program.now c.new-lines.result c.in_ok-rules.rules c.loop-client.lines c.loop-client.rules c.put_block.new.lines next
          c.loop-client.invariant.told c.in_ok-put_block.ensures.told;
    }

pub returns-clause-told : goal.returns-clause-told
returns-clause-told c =
    let lines = c.new-lines.ensures in
    let fresh = c.in_ok-rules.ensures.fresh in
    rules_order_told c.args.program.now c.args.clients.now c.args.wanted c.in_ok-rules.rules c.loop-client.rules c.new-lines.result c.loop-client.lines
    fresh.0 fresh.1 lines.form lines.actors lines.text c.loop-client.invariant.told (whole c) _ _ _ c.into_told.ensures.steps
    (ap (λ v. v.items) c.into_told.ensures.queues ∙ c.in_ok-queues.ensures.text)
    (c.into_told.ensures.played ∙ c.in_ok-played.ensures.shown ∙ ap (λ (x : RulesState). played_of x.program (plain_of x)) c.in_ok-queues.ensures.same)

pub returns-clause-played : goal.returns-clause-played
returns-clause-played c =
    let p = c.args.program.now in
    let cs = c.args.clients.now in
    subst (IsPlayedInOrder p (order_of cs))
    (sym (c.into_told.ensures.played ∙ c.in_ok-played.ensures.shown ∙ ap (λ (x : RulesState). played_of x.program (plain_of x)) c.in_ok-queues.ensures.same))
    (all_played p c.keeps_sound.ensures.sound cs c.requires.legal c.loop-client.rules (whole c))
