-- The worker that a turn of the loop makes is that of the next client, so it is ready, and it is the next of the list.
use Rattle.std.proofs.Common.{sym, ◌∙◌, arith}
use Rattle.qs_run.proofs.Names.{IsClientOf, into_iter_items, none-some, slice_get_within}
use Rattle.qs_run.proofs.ListPlaces.{at_front, left_behind, one_more}
use Rattle.qs_run.proofs.NextReadyWorker.{client_here, rest_after, share_found}
use Rattle.qs_run.proofs.prepare.workers.add_clients.Given.{Over}
use Rattle.qs_run.proofs.prepare.workers.add_clients.Goals as goal
use Rattle.qs_run.proofs.prepare.workers.add_clients.Goals.{In-Some-take}

pub unreachable-requires-in_default-take : goal.unreachable-requires-in_default-take
unreachable-requires-in_default-take g c =
    let l = c.loop-client in
    let minds = c.args.minds.items in
    let front = sym l.invariant.minds ∙ c.in-Some.ensures.items in
    let within = slice_get_within minds l.client c.in-Some.mind (at_front minds l.client c.in-Some.mind (into_iter_items c.next.new.self) front) in
    none-some (record { client = l.client; count = 0 })
    (sym c.in_default-take.is ∙ (c.take.ensures.value
    ∙ share_found g.D.DeskName.program c.args.shares l.shares_left l.client c.index-shares_left-client.result c.requires.sound
    (omega (arith, within, c.requires.minds.many)) c.requires.shares (l.invariant.shares l.client (omega arith))))

here : (g : Over) (c : In-Some-take g) → IsClientOf {D = g.row.D.Denot} g.D.DeskName.program c.args.mode c.args.size c.args.outs.items c.loop-client.client
    (record { mind = c.in-Some.mind; share = c.in-Some-take.share; lanes = c.in-Some-next.lanes })
here g c =
    let l = c.loop-client in
    client_here g.D.DeskName.program c.args.mode c.args.size c.args.minds.items c.args.outs.items c.args.shares l.shares_left l.client _
    c.index-shares_left-client.result (into_iter_items c.next.new.self) (into_iter_items c.next-in-loop-client.new.self)
    c.requires.sound c.requires.minds c.requires.outs c.requires.shares
    (sym l.invariant.minds ∙ c.in-Some.ensures.items) (sym l.invariant.outs ∙ c.in-Some-next.ensures.items)
    (l.invariant.shares l.client (omega arith)) (sym c.take.ensures.value ∙ c.in-Some-take.is)

pub new-requires : goal.new-requires
new-requires g c = record { ready = (here g (goal.at.new-requires g c).In-Some-take).ready }

pub loop-client-preserved : goal.loop-client-preserved
loop-client-preserved g c =
    let l = c.loop-client in
    record {
      room = omega (arith, c.push_reserved.ensures.capacity, l.invariant.room);
      minds = left_behind c.args.minds.items l.client c.in-Some.mind (into_iter_items c.next.new.self) (sym l.invariant.minds ∙ c.in-Some.ensures.items);
      outs = left_behind c.args.outs.items l.client c.in-Some-next.lanes (into_iter_items c.next-in-loop-client.new.self) (sym l.invariant.outs ∙ c.in-Some-next.ensures.items);
      shares = rest_after l.shares_left c.args.shares l.client _ l.invariant.shares;
      added = one_more (IsClientOf g.D.DeskName.program c.args.mode c.args.size c.args.outs.items) l.client l.workers.items c.push_reserved.new.self.items c.new.result _ l.invariant.added
          (here g (goal.at.loop-client-preserved g c).In-Some-take) c.new.ensures.worker c.push_reserved.ensures.items;
    }
