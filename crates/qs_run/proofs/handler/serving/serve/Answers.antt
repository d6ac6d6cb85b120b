use Rattle.std.proofs.Common.{◌∷◌, [], refl, subst, sym, ap, ◌∙◌}
use Rattle.qs_run.proofs.Names.{TicketsView, ArePassed}
use Rattle.qs_handler.specs.audit.Handler.{free}
use Rattle.qs_run.proofs.handler.Passed.{passed_more}
use Rattle.qs_run.proofs.handler.ServedTasks.{all_served, begins, client_of, is_asked_for, is_empty, kept_by_chunk, kept_by_object, kept_by_parcel, kept_to_end, parcel_stands, reaches, took_ticket}
use Rattle.qs_run.proofs.handler.serving.serve.Goals as goal

pub loop-init : goal.loop-init
loop-init g c = (
  begins g.D.DeskName.program c.args.tickets.handler c.args.held c.args.lanes c.new-mind.result c.args.tickets (c.new-mind.ensures.free ∙ ap free c.touch.ensures.same) refl c.requires.taken c.requires.fresh,
  subst (λ taken. ArePassed (g.G.Passage.moves c.args.gate.now) c.args.tickets.handler c.args.log.now taken c.args.log.now) (sym c.requires.taken) refl,
)

pub loop-preserved-in-TakeTicket : goal.loop-preserved-in-TakeTicket
loop-preserved-in-TakeTicket g c = (
  took_ticket g.D.DeskName.program c.args.tickets.handler c.args.held c.args.lanes c.loop.mind c.next-in-loop.new.self c.ticket.new.self c.take_or_sleep-next.result
      c.loop.tickets c.take_or_sleep-next.new.self c.loop.lanes c.loop.invariant.0 c.next-in-loop.ensures.rest (sym c.in-TakeTicket.ensures.act) c.ticket.ensures.taken
      c.take_or_sleep-next.ensures.reserved c.take_or_sleep-next.ensures.taken,
  subst (λ (v : TicketsView). ArePassed (g.G.Passage.moves c.args.gate.now) c.args.tickets.handler c.args.log.now v.taken c.announce.new.log) (sym c.take_or_sleep-next.ensures.taken)
      (passed_more (g.G.Passage.moves c.args.gate.now) c.args.tickets.handler c.loop.tickets.taken (c.take_or_sleep-next.result ∷ []) c.args.log.now c.loop.log c.announce.new.log c.loop.invariant.1
      (subst (λ object. ArePassed (g.G.Passage.moves c.args.gate.now) object c.loop.log (c.take_or_sleep-next.result ∷ []) c.announce.new.log) c.handler-object.ensures.handler c.announce.ensures.passed)),
)

pub take_parcel-requires : goal.take_parcel-requires
take_parcel-requires g c =
    let to = reaches g.D.DeskName.program c.args.tickets.handler c.args.held c.args.lanes c.loop.mind c.next-in-loop.new.self c.loop.tickets c.loop.lanes c.loop.invariant.0
    c.next-in-loop.ensures.rest c.requires.reached c.in-TakeParcel.client (ap client_of (sym c.in-TakeParcel.ensures.act)) in
    record { client = to.0; lane = to.1 }

pub parcel-requires-clause-stands : goal.parcel-requires-clause-stands
parcel-requires-clause-stands g c =
    parcel_stands g.D.DeskName.program c.args.tickets.handler c.args.held c.args.lanes c.loop.mind c.next-in-loop.new.self c.loop.tickets c.loop.lanes c.loop.invariant.0 c.next-in-loop.ensures.rest c.requires.reached c.in-TakeParcel.client c.take_parcel.result c.take_parcel.new.lanes (sym c.in-TakeParcel.ensures.act) c.take_parcel.ensures.took

pub loop-preserved-in-TakeParcel : goal.loop-preserved-in-TakeParcel
loop-preserved-in-TakeParcel g c = (
  kept_by_parcel g.D.DeskName.program c.args.tickets.handler c.args.held c.args.lanes c.loop.mind c.next-in-loop.new.self c.loop.tickets c.loop.lanes c.loop.invariant.0 c.next-in-loop.ensures.rest c.requires.reached c.parcel.new.self c.in-TakeParcel.client c.take_parcel.result c.take_parcel.new.lanes (sym c.in-TakeParcel.ensures.act)
      c.parcel.ensures.received c.take_parcel.ensures.took,
  c.loop.invariant.1,
)

pub give-requires : goal.give-requires
give-requires g c =
    let to = reaches g.D.DeskName.program c.args.tickets.handler c.args.held c.args.lanes c.loop.mind c.next-in-loop.new.self c.loop.tickets c.loop.lanes c.loop.invariant.0
    c.next-in-loop.ensures.rest c.requires.reached c.in-Give.client (ap client_of (sym c.in-Give.ensures.act)) in
    record {
      client = to.0;
      lane = to.1;
      asked = λ lane is. is_asked_for g.D.DeskName.program c.args.tickets.handler c.args.held c.args.lanes c.loop.mind c.next-in-loop.new.self c.loop.tickets c.loop.lanes c.loop.invariant.0
          c.next-in-loop.ensures.rest c.requires.reached
          c.in-Give.client c.in-Give.held lane (sym c.in-Give.ensures.act) is;
    }

pub loop-preserved-in-Give : goal.loop-preserved-in-Give
loop-preserved-in-Give g c =
    (kept_by_object g.D.DeskName.program c.args.tickets.handler c.args.held c.args.lanes c.loop.mind c.next-in-loop.new.self c.loop.tickets c.loop.lanes c.loop.invariant.0 c.next-in-loop.ensures.rest c.requires.reached c.in-Give.client c.in-Give.held c.give.new.lanes (sym c.in-Give.ensures.act) c.give.ensures.given, c.loop.invariant.1)

pub spare-requires : goal.spare-requires
spare-requires g c =
    let to = reaches g.D.DeskName.program c.args.tickets.handler c.args.held c.args.lanes c.loop.mind c.next-in-loop.new.self c.loop.tickets c.loop.lanes c.loop.invariant.0
    c.next-in-loop.ensures.rest c.requires.reached c.in-Spare.client (ap client_of (sym c.in-Spare.ensures.act)) in
    record {
      client = to.0;
      lane = to.1;
      empty = λ lane is. is_empty g.D.DeskName.program c.args.tickets.handler c.args.held c.args.lanes c.loop.mind c.next-in-loop.new.self c.loop.tickets c.loop.lanes c.loop.invariant.0
          c.next-in-loop.ensures.rest c.requires.reached
          c.in-Spare.client c.in-Spare.chunk lane (sym c.in-Spare.ensures.act) is;
    }

pub loop-preserved : goal.loop-preserved
loop-preserved g c =
    (kept_by_chunk g.D.DeskName.program c.args.tickets.handler c.args.held c.args.lanes c.loop.mind c.next-in-loop.new.self c.loop.tickets c.loop.lanes c.loop.invariant.0 c.next-in-loop.ensures.rest c.requires.reached c.in-Spare.client c.in-Spare.chunk c.spare.new.lanes (sym c.in-Spare.ensures.act) c.spare.ensures.spared, c.loop.invariant.1)

pub returns-in-Closed : goal.returns-in-Closed
returns-in-Closed g c =
    let end = kept_to_end g.D.DeskName.program c.args.tickets.handler c.args.held c.args.lanes c.loop.mind c.next-in-loop.new.self c.into_held.result c.loop.tickets c.loop.lanes c.loop.invariant.0 c.next-in-loop.ensures.rest
    (sym c.in-Closed.ensures.act) c.into_held.ensures.held in
    record { served = end; given = all_served g.D.DeskName.program c.args.tickets.handler c.args.held c.args.lanes c.into_held.result c.loop.tickets c.loop.lanes end; passed = c.loop.invariant.1 }
