-- Each turn of the loop adds that one more block has ended.
use Rattle.std.proofs.Common.{◌<◌, ◌++◌, ◌∷◌, [], true, length, map, take, get_or, sym, ap, ◌∙◌, arith}
use Rattle.qs_played.proofs.Names.{map_push, take_more, Ticket, ticket}
use Rattle.qs_run.proofs.collect.show.ended_blocks.Goals as goal

pub loop-ticket-preserved : goal.loop-ticket-preserved
loop-ticket-preserved c =
    let n = c.loop-ticket._ticket-index in
    let xs = c.args.order.now in
    let inside : n < length c.args.order.now = omega (arith, c.loop-ticket-test.true) in
    record {
      ended = c.push_reserved.ensures.items
          ∙ ((λ k. c.loop-ticket.invariant.ended k ++ true ∷ [])
          ∙ (sym (map_push (λ (t : Ticket). true) (take n xs) (get_or xs n (ticket 0 0)))
          ∙ ap (map (λ (t : Ticket). true)) (sym (take_more xs n (ticket 0 0) inside))));
      room = c.push_reserved.ensures.capacity ∙ c.loop-ticket.invariant.room;
    }
