-- Each turn of the loop collects the next client. The handlers' ends of its lanes are still there, so its lanes can be
-- joined, and what is known of them holds of the handlers as they were before the loop.
use Rattle.std.proofs.Common.{◌≡◌, ◌++◌, ◌∷◌, List, [], length, map, refl, sym, ap, ◌∙◌, subst, arith, rules}
use Rattle.qs_played.proofs.Names.{YieldsList-from_vec, YieldsList-turn, length-map, length_push, map_push, slice_get_read, each_snoc, ClientRows}
use Rattle.qs_run.proofs.Names.{DeskView, ClientWorker, AreLanesJoined, AreLanesPaired, IsBooked, worker_rows, without_lane_of}
use Rattle.qs_played.proofs.Lists.{empty_of}
use Rattle.qs_run.proofs.LanesTaken.{joined_before, none_taken, one_more_taken, paired_still}
use Rattle.qs_run.proofs.ListPlaces.{pushed}
use Rattle.qs_run.proofs.collect.clients.collect_clients.Goals as goal

pub loop-client-init : goal.loop-client-init
loop-client-init g c = record {
  number = refl;
  desk = refl;
  rows = empty_of c.args.rows.items (omega (arith, c.args.rows.ok.0, c.requires.room.0));
  room = refl;
  booked = tt;
  joined = λ n s e. absurd (cc);
  lanes_taken = none_taken c.args.handlers.now;
}

pub collect_client-requires-clause-paired : goal.collect_client-requires-clause-paired
collect_client-requires-clause-paired g c =
    let n = c.loop-client.number in
    let client = c.in-Some.client in
    let inv = c.loop-client.invariant in
    let turn = YieldsList-turn (YieldsList-from_vec {s = c.into_iter-client-iterator.result} c.args.clients.items (search rules) (search rules))
    c.loop-client.yielded c.loop-client.client-iterator c.loop-client.yielded_by c.next.result c.next.new.self client c.in-Some.is c.next.ensures.steps in
    let at = slice_get_read c.args.clients.items (length c.args.clients.items) (length c.loop-client.yielded) client refl turn.0 turn.1 in
    let here = subst (λ k. AreLanesPaired client.lanes k c.args.handlers.now) (sym inv.number) (c.requires.paired (length c.loop-client.yielded) client at) in
    subst (AreLanesPaired client.lanes n) (sym inv.lanes_taken) (paired_still client.lanes n c.args.handlers.now here)

pub push_reserved-requires : goal.push_reserved-requires
push_reserved-requires g c =
    let client = c.in-Some.client in
    let inv = c.loop-client.invariant in
    let turn = YieldsList-turn (YieldsList-from_vec {s = c.into_iter-client-iterator.result} c.args.clients.items (search rules) (search rules))
    c.loop-client.yielded c.loop-client.client-iterator c.loop-client.yielded_by c.next.result c.next.new.self client c.in-Some.is c.next.ensures.steps in
    let less = turn.0 in
    let rows : length c.loop-client.rows.items ≡ length c.loop-client.yielded = ap length inv.rows ∙ length-map c.loop-client.yielded worker_rows in
    omega (arith, less, rows, c.loop-client.rows.ok.0, c.args.clients.ok.0, inv.room, c.requires.room.1)

pub loop-client-preserved : goal.loop-client-preserved
loop-client-preserved g c =
    let n = c.loop-client.number in
    let client = c.in-Some.client in
    let inv = c.loop-client.invariant in
    let yielded = c.loop-client.yielded in
    let joined = joined_before client.lanes n c.args.handlers.now (subst (AreLanesJoined client.lanes n) inv.lanes_taken c.collect_client.ensures.joined) in
    record {
      number = (let more = length_push c.loop-client.yielded c.in-Some.client in omega (arith, more, inv.number));
      desk = c.collect_client.ensures.desk ∙ inv.desk;
      rows = ◌∙◌ {A = List ClientRows} c.push_reserved.ensures.items
          ((λ k. inv.rows k ++ c.collect_client.ensures.rows k ∷ []) ∙ sym (map_push worker_rows yielded client));
      room = c.push_reserved.ensures.capacity ∙ inv.room;
      booked = each_snoc (IsBooked c.args.desk.now.history) yielded client inv.booked (subst (λ (d : DeskView). IsBooked d.history client) inv.desk c.collect_client.ensures.booked);
      joined = pushed (λ k (s : ClientWorker _). AreLanesJoined s.lanes k c.args.handlers.now) yielded client inv.joined
          (subst (λ k. AreLanesJoined client.lanes k c.args.handlers.now) inv.number joined);
      lanes_taken = c.collect_client.ensures.lanes_taken ∙ (ap (map (without_lane_of n)) inv.lanes_taken ∙ one_more_taken n c.args.handlers.now);
    }
