use Rattle.std.proofs.Common.{◌∙◌, ◌∷◌, ◌+◌, [], ap, drop, get_or, subst, sym}
use Rattle.qs_steps.proofs.Names.{ArePlayed, CoreState, all_played, core_of, core_view, drop_all, from_here, next_left, one_more, order_of, own_order, played_first}
use Rattle.qs_core_laws.proofs.Names.{core_played, IsPlayedInOrderOn}
use Rattle.qs_steps.proofs.OrdersTold.{core_order_told, gone_join, gone_none}
use Rattle.qs_steps.proofs.core_orders.tell_order.Goals as goal
use Rattle.qs_steps.proofs.core_orders.tell_order.Goals.{After-into_told, In-loop-client}

-- the client at this place, and those after it
now_played : (c : In-loop-client) → ArePlayed c.args.program.now c.args.mode c.args.size c.args.clients.now
    (get_or c.args.clients.now c.loop-client.client-index 0 ∷ drop (c.loop-client.client-index + 1) c.args.clients.now) c.loop-client.core
now_played c = subst (λ rest. ArePlayed c.args.program.now c.args.mode c.args.size c.args.clients.now rest c.loop-client.core)
    (from_here c.args.clients.now c.loop-client.client-index c.loop-client-test.true) c.loop-client.invariant.played

-- all were played
whole : (c : After-into_told) → ArePlayed c.args.program.now c.args.mode c.args.size c.args.clients.now [] c.loop-client.core
whole c = subst (λ rest. ArePlayed c.args.program.now c.args.mode c.args.size c.args.clients.now rest c.loop-client.core)
    (drop_all c.loop-client.client-index c.args.clients.now c.loop-client-test.false) c.loop-client.invariant.played

pub loop-client-init : goal.loop-client-init
loop-client-init c = record {
  played = played_first c.args.program.now c.args.mode c.args.size c.args.clients.now c.in_ok-core.core c.in_ok-core.ensures.fresh;
  told = gone_none core_view c.args.program.now c.new-lines.result c.in_ok-core.core;
}

pub put_block-requires-clause-left : goal.put_block-requires-clause-left
put_block-requires-clause-left c =
    let a = (goal.at.put_block-requires-clause-left c).In-loop-client in
    next_left c.args.program.now c.args.mode c.args.size c.args.clients.now (get_or c.args.clients.now c.loop-client.client-index 0) (drop (c.loop-client.client-index + 1) c.args.clients.now)
    c.loop-client.core (now_played a) c.requires.legal

pub loop-client-preserved : goal.loop-client-preserved
loop-client-preserved c =
    let a = (goal.at.loop-client-preserved c).In-loop-client in
    let next = c.put_block.new.core in
    record {
      played = one_more c.args.program.now c.args.mode c.args.size c.args.clients.now (get_or c.args.clients.now c.loop-client.client-index 0) (drop (c.loop-client.client-index + 1) c.args.clients.now)
          c.loop-client.core (now_played a) next (own_order next) c.in_ok-put_block.ensures.on;
      told = gone_join core_view c.args.program.now c.new-lines.result c.in_ok-core.core c.loop-client.lines c.loop-client.core c.put_block.new.lines next
          c.loop-client.invariant.told c.in_ok-put_block.ensures.told;
    }

pub returns-clause-told : goal.returns-clause-told
returns-clause-told c =
    let lines = c.new-lines.ensures in
    core_order_told c.args.program.now c.args.mode c.args.size c.args.clients.now c.args.wanted c.in_ok-core.core c.loop-client.core c.new-lines.result c.loop-client.lines
    c.in_ok-core.ensures.fresh lines.form lines.actors lines.text c.loop-client.invariant.told (whole c) _ _ _ c.into_told.ensures.steps
    (ap (λ v. v.items) c.into_told.ensures.queues ∙ c.in_ok-queues.ensures.text)
    (c.into_told.ensures.played ∙ c.in_ok-played.ensures.shown ∙ ap (λ (x : CoreState). core_played x.program (core_of x)) c.in_ok-queues.ensures.same)

pub returns-clause-played : goal.returns-clause-played
returns-clause-played c =
    let p = c.args.program.now in
    let cs = c.args.clients.now in
    subst (IsPlayedInOrderOn p c.args.mode c.args.size (order_of cs))
    (sym (c.into_told.ensures.played ∙ c.in_ok-played.ensures.shown ∙ ap (λ (x : CoreState). core_played x.program (core_of x)) c.in_ok-queues.ensures.same))
    (all_played p c.keeps_sound.ensures.sound c.args.mode c.args.size cs c.requires.legal c.loop-client.core (whole c))
