use Rattle.std.proofs.Common.{◌<◌, length, sym, ap, subst, ◌∙◌}
use Rattle.qs_chunk.specs.audit.LaneParts.{away_at}
use Rattle.qs_core.proofs.Names.{lane_at, client_part_at}
use Rattle.qs_core.proofs.shown.CoreShowing.{object_away, object_here, object_never_lost, turned_inside}
use Rattle.qs_core.proofs.shown.core_showing.object.Goals as goal

pub returns-in-Some : goal.returns-in-Some
returns-in-Some c = record {
  value = object_here c.args.clients.now c.args.number c.args.handler.now c.in-Some.held.now c.in-Some.ensures.value;
}

pub returns-in-Some-client : goal.returns-in-Some-client
returns-in-Some-client c =
    let h = c.args.number in
    let cs = c.args.clients.now in
    let there = object_away c.args.clients.now h c.args.handler.now c.has_next_act.ensures.formed c.in-None.ensures.value c.in-Some-client.client c.in-Some-client.ensures.value in
    record {
      value = c.away.ensures.value
          ∙ (λ k. away_at (lane_at (c.client_at.ensures.lanes k) h).up (lane_at (c.client_at.ensures.lanes k) h).down ((c.client_at.ensures.mind k).client.held h))
          ∙ ap (λ n. away_at (lane_at (client_part_at cs n).lanes h).up (lane_at (client_part_at cs n).lanes h).down ((client_part_at cs n).mind.client.held h)) c.from.ensures
          ∙ sym there;
    }

pub client_at-requires : goal.client_at-requires
client_at-requires c =
    let inside = turned_inside c.args.clients.now c.args.number c.args.handler.now c.has_next_act.ensures.formed c.requires.turns c.in-Some-client.client c.in-Some-client.ensures.value in
    record { number = subst (λ n. n < length c.args.clients.now) (sym c.from.ensures) inside }

pub returns-in-None-client : goal.returns-in-None-client
returns-in-None-client c = absurd (object_never_lost c.args.clients.now c.args.number c.args.handler.now c.has_next_act.ensures.formed c.in-None.ensures.value c.in-None-client.ensures.value)
