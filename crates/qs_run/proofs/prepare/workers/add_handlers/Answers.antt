-- The worker that a turn of the loop makes is that of the next handler, so it is ready, and it is the next of the list.
use Rattle.std.proofs.Common.{sym, ◌∙◌, arith}
use Rattle.std.specs.Vec.Iter.{into_iter_items}
use Rattle.qs_run.proofs.Names.{IsHandlerOf}
use Rattle.qs_run.proofs.ListPlaces.{left_behind, one_more}
use Rattle.qs_run.proofs.NextReadyWorker.{handler_here, rest_after}
use Rattle.qs_run.proofs.prepare.workers.add_handlers.Given.{Over}
use Rattle.qs_run.proofs.prepare.workers.add_handlers.Goals as goal
use Rattle.qs_run.proofs.prepare.workers.add_handlers.Goals.{In-Some-take}

here : (g : Over) (c : In-Some-take g) → IsHandlerOf {D = g.row.D.Denot} g.D.DeskName.program c.args.ins.items c.loop-handler.handler
    (record { held = c.in-Some.held; tickets = c.in-Some-take.tickets; lanes = c.in-Some-next.lanes })
here g c =
    let l = c.loop-handler in
    handler_here g.D.DeskName.program c.args.helds.items c.args.ins.items c.args.tickets l.tickets_left l.handler _
    c.index-tickets_left-handler.result (into_iter_items c.next.new.self) (into_iter_items c.next-in-loop-handler.new.self)
    c.requires.sound c.requires.helds c.requires.ins c.requires.tickets
    (sym l.invariant.helds ∙ c.in-Some.ensures.items) (sym l.invariant.ins ∙ c.in-Some-next.ensures.items)
    (l.invariant.tickets l.handler (omega arith)) (sym c.take.ensures.value ∙ c.in-Some-take.is)

pub new-requires : goal.new-requires
new-requires g c = record { ready = (here g (goal.at.new-requires g c).In-Some-take).ready }

pub loop-handler-preserved : goal.loop-handler-preserved
loop-handler-preserved g c =
    let l = c.loop-handler in
    record {
      room = omega (arith, c.push_reserved.ensures.capacity, l.invariant.room);
      helds = left_behind c.args.helds.items l.handler c.in-Some.held (into_iter_items c.next.new.self) (sym l.invariant.helds ∙ c.in-Some.ensures.items);
      ins = left_behind c.args.ins.items l.handler c.in-Some-next.lanes (into_iter_items c.next-in-loop-handler.new.self) (sym l.invariant.ins ∙ c.in-Some-next.ensures.items);
      tickets = rest_after l.tickets_left c.args.tickets l.handler _ l.invariant.tickets;
      added = one_more (IsHandlerOf g.D.DeskName.program c.args.ins.items) l.handler l.workers.items c.push_reserved.new.self.items c.new.result _ l.invariant.added
          (here g (goal.at.loop-handler-preserved g c).In-Some-take) c.new.ensures.worker c.push_reserved.ensures.items;
    }
