use Rattle.std.proofs.Common.{◌<◌, ◌+◌, ◌∷◌, [], add-one, arith, drop, get_or, subst, sym, rules}
use Rattle.qs_played.proofs.Names.{drop-cons, drop_all, length-map}
use Rattle.qs_serial.specs.audit.NamedOrders.{order_of}
use Rattle.qs_plain.proofs.Names.{if_shown, IsOrdered, ordered_begin, ordered_plays, tickets_begun, client_of_state, plain_of}
use Rattle.qs_plain_laws.proofs.Names.{begin, begun_blocks, played_of, IsPlayedInOrder}
use Rattle.qs_plain.proofs.Blocks.{ArePlayed, all_played, next_left, one_more, played_first}
use Rattle.qs_plain.proofs.ReadingOff.{at_client}
use Rattle.qs_plain.proofs.orders.play_clients.Goals as goal
use Rattle.qs_plain.proofs.orders.play_clients.Goals.{In-loop-client}

-- the client at this place, and those after it
now_played : (c : In-loop-client) → ArePlayed c.args.program.now c.args.clients.now
    (get_or c.args.clients.now c.loop-client.client-index 0 ∷ drop (c.loop-client.client-index + 1) c.args.clients.now) c.loop-client.rules
now_played c = search (rules, drop-cons, drop, add-one)

pub loop-client-init : goal.loop-client-init
loop-client-init c = played_first c.args.program.now c.args.clients.now c.in_ok-rules.rules c.in_ok-rules.ensures.fresh.0 c.in_ok-rules.ensures.fresh.1

pub play_block-requires-clause-left : goal.play_block-requires-clause-left
play_block-requires-clause-left c =
    let a = (goal.at.play_block-requires-clause-left c).In-loop-client in
    next_left c.args.program.now c.args.clients.now (get_or c.args.clients.now c.loop-client.client-index 0) (drop (c.loop-client.client-index + 1) c.args.clients.now)
    c.loop-client.rules (now_played a) c.requires.legal

pub loop-client-preserved : goal.loop-client-preserved
loop-client-preserved c =
    let a = (goal.at.loop-client-preserved c).In-loop-client in
    one_more c.args.program.now c.args.clients.now (get_or c.args.clients.now c.loop-client.client-index 0) (drop (c.loop-client.client-index + 1) c.args.clients.now)
    c.loop-client.rules (now_played a) c.play_block.new.self c.play_block.ensures.on

pub into_played-requires : goal.into_played-requires
into_played-requires c = λ i d less.
    let p = c.args.program.now in
    let s = c.loop-client.rules in
    let t = get_or s.order i d in
    let leads = c.loop-client.invariant.leads in
    let all = subst (IsOrdered p) (sym leads.2) (ordered_plays p (begin p) leads.0 (ordered_begin p)) in
    let found = tickets_begun p (plain_of s) all i d less in (
      omega (arith, found.0, length-map s.clients client_of_state),
      subst (λ it. t.index < begun_blocks it) (sym (at_client s.clients t.client)) found.1,
    )

pub returns : goal.returns
returns c =
    let p = c.args.program.now in
    let cs = c.args.clients.now in
    let s = c.loop-client.rules in
    let all : ArePlayed p cs [] s =
    subst (λ rest. ArePlayed p cs rest s) (drop_all c.loop-client.client-index cs c.loop-client-test.false) c.loop-client.invariant in
    record {
      played = if_shown (IsPlayedInOrder p (order_of cs)) c.into_played.result (played_of s.program (plain_of s)) c.into_played.ensures.shown
          (λ played is. subst (IsPlayedInOrder p (order_of cs)) (sym is) (all_played p c.keeps_sound.ensures.sound cs c.requires.legal s all));
    }
