use Rattle.std.proofs.Common.{◌∙◌, refl, sym, ap, subst}
use Rattle.qs_objects.specs.declared.held.Ticket.{Ticket}
use Rattle.qs_client.specs.MindState.{mind_of}
use Rattle.qs_client.specs.declared.rules.act.Act.TheVariants as acts
use Rattle.qs_run.proofs.client.ThreadActs.{HasDeeds, IsRunning, begins, count_is, has_left, is_empty, kept_by_chunk, kept_by_object, kept_by_parcel, kept_by_ticket, may_follow, reaches}
use Rattle.qs_run.proofs.client.running.run.Given.{Over}
use Rattle.qs_run.proofs.client.running.run.Goals as goal
use Rattle.qs_run.proofs.client.running.run.Goals.{After-next-in-loop}

running : (g : Over) (c : After-next-in-loop g)
    → IsRunning g.D.DeskName.program c.args.share.client (mind_of c.args.mind) c.args.lanes (mind_of c.loop.mind) (mind_of c.next-in-loop.new.self) c.loop.share c.loop.lanes
running g c = record {
  sound = c.requires.sound;
  code = c.requires.code;
  at_first = c.requires.begins;
  fresh = c.requires.fresh;
  reached = c.requires.reached;
  kept = c.loop.invariant;
  at = c.next-in-loop.ensures.rest;
}

pub loop-init : goal.loop-init
loop-init g c =
    subst (λ m. HasDeeds g.D.DeskName.program c.args.share.client (mind_of c.args.mind) c.args.lanes m c.args.share c.args.lanes)
    (sym (ap mind_of c.touch.ensures.same))
    (begins g.D.DeskName.program c.args.share.client (mind_of c.args.mind) c.args.lanes c.args.share refl c.requires.unbooked c.requires.fresh)

pub reserve_and_wake_handlers-requires : goal.reserve_and_wake_handlers-requires
reserve_and_wake_handlers-requires g c =
    record { left = has_left (running g (goal.at.reserve_and_wake_handlers-requires g c).After-next-in-loop) (sym c.in-Reserve.ensures.act) }

pub booked-requires-clause-next : goal.booked-requires-clause-next
booked-requires-clause-next g c =
    ap (λ (t : Ticket). t.index) c.reserve_and_wake_handlers.ensures.ticket
    ∙ count_is (running g (goal.at.booked-requires-clause-next g c).After-next-in-loop) (sym c.in-Reserve.ensures.act)

pub loop-preserved-in-Reserve : goal.loop-preserved-in-Reserve
loop-preserved-in-Reserve g c =
    kept_by_ticket (running g (goal.at.loop-preserved-in-Reserve g c).After-next-in-loop) (mind_of c.booked.new.self) c.reserve_and_wake_handlers.result c.reserve_and_wake_handlers.new.share
    (sym c.in-Reserve.ensures.act) c.reserve_and_wake_handlers.ensures.ticket c.reserve_and_wake_handlers.ensures.share c.booked.ensures.begun

pub send-requires : goal.send-requires
send-requires g c =
    let to = reaches (running g (goal.at.send-requires g c).After-next-in-loop) c.in-Send.handler (acts.Send c.in-Send.handler c.in-Send.parcel) (sym c.in-Send.ensures.act) refl in
    record { handler = to.0; lane = to.1; follows = may_follow (running g (goal.at.send-requires g c).After-next-in-loop) c.in-Send.handler c.in-Send.parcel (sym c.in-Send.ensures.act) }

pub loop-preserved-in-Send : goal.loop-preserved-in-Send
loop-preserved-in-Send g c =
    kept_by_parcel (running g (goal.at.loop-preserved-in-Send g c).After-next-in-loop) c.in-Send.handler c.in-Send.parcel c.send.new.lanes (sym c.in-Send.ensures.act) c.send.ensures.sent

pub get-requires : goal.get-requires
get-requires g c =
    let to = reaches (running g (goal.at.get-requires g c).After-next-in-loop) c.in-Await.handler (acts.Await c.in-Await.handler) (sym c.in-Await.ensures.act) refl in
    record { handler = to.0; lane = to.1 }

pub loop-preserved-in-Await : goal.loop-preserved-in-Await
loop-preserved-in-Await g c =
    kept_by_object (running g (goal.at.loop-preserved-in-Await g c).After-next-in-loop) (mind_of c.got.new.self) c.in-Await.handler c.get.result c.get.new.lanes
    (sym c.in-Await.ensures.act) c.got.ensures.object c.get.ensures.got

pub empty-requires : goal.empty-requires
empty-requires g c =
    let to = reaches (running g (goal.at.empty-requires g c).After-next-in-loop) c.in-NeedChunk.handler (acts.NeedChunk c.in-NeedChunk.handler) (sym c.in-NeedChunk.ensures.act) refl in
    record { handler = to.0; lane = to.1 }

pub chunk-requires-clause-empty : goal.chunk-requires-clause-empty
chunk-requires-clause-empty g c =
    is_empty (running g (goal.at.chunk-requires-clause-empty g c).After-next-in-loop) c.in-NeedChunk.handler c.empty.result c.empty.new.lanes (sym c.in-NeedChunk.ensures.act) c.empty.ensures.taken

pub loop-preserved : goal.loop-preserved
loop-preserved g c =
    kept_by_chunk (running g (goal.at.loop-preserved g c).After-next-in-loop) (mind_of c.chunk.new.self) c.in-NeedChunk.handler c.empty.result c.empty.new.lanes
    (sym c.in-NeedChunk.ensures.act) (c.chunk.ensures.chunk c.in-NeedChunk.handler (c.in-NeedChunk.ensures.asked tt)) c.empty.ensures.taken
