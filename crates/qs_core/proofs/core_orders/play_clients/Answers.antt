use Rattle.std.proofs.Common.{◌+◌, ◌∷◌, [], add-one, drop, get_or, subst, sym, rules}
use Rattle.qs_played.proofs.Names.{drop-cons, drop_all}
use Rattle.qs_serial.specs.audit.NamedOrders.{order_of}
use Rattle.qs_played.proofs.ShownRuns.{if_shown}
use Rattle.qs_core_laws.proofs.Names.{core_played, IsPlayedInOrderOn}
use Rattle.qs_core.specs.state.CoreState.{core_of}
use Rattle.qs_core.proofs.CoreBlocks.{ArePlayed, all_played, next_left, one_more, own_order, played_first, quiet_now}
use Rattle.qs_core.proofs.core_orders.play_clients.Goals as goal
use Rattle.qs_core.proofs.core_orders.play_clients.Goals.{In-loop-client}

-- the client at this place, and those after it
now_played : (c : In-loop-client) → ArePlayed c.args.program.now c.args.mode c.args.size c.args.clients.now
    (get_or c.args.clients.now c.loop-client.client-index 0 ∷ drop (c.loop-client.client-index + 1) c.args.clients.now) c.loop-client.core
now_played c = search (rules, drop-cons, drop, add-one)

pub loop-client-init : goal.loop-client-init
loop-client-init c = played_first c.args.program.now c.args.mode c.args.size c.args.clients.now c.in_ok-core.core c.in_ok-core.ensures.fresh

pub play_block-requires-clause-quiet : goal.play_block-requires-clause-quiet
play_block-requires-clause-quiet c =
    let a = (goal.at.play_block-requires-clause-quiet c).In-loop-client in
    quiet_now c.args.program.now c.args.mode c.args.size c.args.clients.now (get_or c.args.clients.now c.loop-client.client-index 0) (drop (c.loop-client.client-index + 1) c.args.clients.now)
    c.loop-client.core (now_played a)

pub play_block-requires-clause-left : goal.play_block-requires-clause-left
play_block-requires-clause-left c =
    let a = (goal.at.play_block-requires-clause-left c).In-loop-client in
    next_left c.args.program.now c.args.mode c.args.size c.args.clients.now (get_or c.args.clients.now c.loop-client.client-index 0) (drop (c.loop-client.client-index + 1) c.args.clients.now)
    c.loop-client.core (now_played a) c.requires.legal

pub loop-client-preserved : goal.loop-client-preserved
loop-client-preserved c =
    let a = (goal.at.loop-client-preserved c).In-loop-client in
    one_more c.args.program.now c.args.mode c.args.size c.args.clients.now (get_or c.args.clients.now c.loop-client.client-index 0) (drop (c.loop-client.client-index + 1) c.args.clients.now)
    c.loop-client.core (now_played a) c.play_block.new.self (own_order c.play_block.new.self) c.play_block.ensures.on

pub returns : goal.returns
returns c =
    let p = c.args.program.now in
    let cs = c.args.clients.now in
    let s = c.loop-client.core in
    let all : ArePlayed p c.args.mode c.args.size cs [] s =
    subst (λ rest. ArePlayed p c.args.mode c.args.size cs rest s) (drop_all c.loop-client.client-index cs c.loop-client-test.false) c.loop-client.invariant in
    record {
      played = if_shown (IsPlayedInOrderOn p c.args.mode c.args.size (order_of cs)) c.into_played.result (core_played s.program (core_of s)) c.into_played.ensures.shown
          (λ played is. subst (IsPlayedInOrderOn p c.args.mode c.args.size (order_of cs)) (sym is) (all_played p c.keeps_sound.ensures.sound c.args.mode c.args.size cs c.requires.legal s all));
    }
