-- What is known of the clients that were collected so far. The handlers have lost their ends of the lanes to them, and
-- nothing else.
use Rattle.std.proofs.Common.{◌≡◌, length, map, vec_capacity}
use Rattle.std.specs.List.{AllByRecursion}
use Rattle.qs_run.specs.Collected.{AreAllJoined, IsBooked, worker_rows, without_lanes_below}
use Rattle.qs_run.proofs.collect.clients.collect_clients.Given as goal

abbrev pub invariant-loop-client : goal.invariant-loop-client
invariant-loop-client g l = record {
  number : l.number ≡ length l.yielded;
  desk : l.desk ≡ l.initial.desk;
  rows : l.rows.items ≡ map worker_rows l.yielded;
  room : vec_capacity l.rows ≡ vec_capacity l.initial.rows;
  booked : AllByRecursion (IsBooked l.initial.desk.history) l.yielded;
  joined : AreAllJoined l.initial.handlers l.yielded;
  lanes_taken : l.handlers ≡ map (without_lanes_below l.number) l.initial.handlers;
}
