use Rattle.std.proofs.Common.{◌+◌, ◌∷◌, drop, get_or, subst, sym}
use Rattle.std.proofs.lemmas.List.{drop_more, drop_all}
use Rattle.qs_standings.specs.Standings.{HasNext, IsStanding}
use Rattle.qs_standings.proofs.Fronts.{IsPlacedSoFar, named_left, placed_last, placed_on}
use Rattle.qs_standings.proofs.Stands.{in_program}
use Rattle.qs_standings.proofs.front.placed.Goals as goal
use Rattle.qs_standings.proofs.front.placed.Goals.{In-loop-client}

now_placed : (c : In-loop-client) → IsPlacedSoFar c.args.program.now c.args.clients.now
    (get_or c.args.clients.now c.loop-client.client-index 0 ∷ drop (c.loop-client.client-index + 1) c.args.clients.now) c.loop-client.standing
now_placed c = subst (λ rest. IsPlacedSoFar c.args.program.now c.args.clients.now rest c.loop-client.standing)
    (drop_more c.args.clients.now c.loop-client.client-index 0 c.loop-client-test.true) c.loop-client.invariant

has_left : (c : In-loop-client) → HasNext c.args.program.now c.loop-client.standing (get_or c.args.clients.now c.loop-client.client-index 0)
has_left c = named_left c.args.program.now c.args.clients.now (get_or c.args.clients.now c.loop-client.client-index 0) (drop (c.loop-client.client-index + 1) c.args.clients.now) c.loop-client.standing (now_placed c) c.requires.legal

pub next-requires : goal.next-requires
next-requires c =
    let left = has_left (goal.at.next-requires c).In-loop-client in
    record {
      client = in_program c.args.program.now c.loop-client.standing (get_or c.args.clients.now c.loop-client.client-index 0) left;
      standing = subst (λ front. IsStanding c.args.program.now front c.loop-client.standing) (sym c.order.ensures.order) c.loop-client.invariant.standing;
      left = left;
    }

pub loop-client-preserved : goal.loop-client-preserved
loop-client-preserved c = placed_on _ _ _ _ _ _ (now_placed (goal.at.loop-client-preserved c).In-loop-client) c.in_ok-standing-2.ensures.on

pub returns : goal.returns
returns c = record {
  first = placed_last _ _ _ (subst (λ rest. IsPlacedSoFar c.args.program.now c.args.clients.now rest c.loop-client.standing)
      (drop_all c.loop-client.client-index c.args.clients.now c.loop-client-test.false) c.loop-client.invariant);
}
