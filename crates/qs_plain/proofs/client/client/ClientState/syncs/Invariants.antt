use Rattle.std.proofs.Common.{◌≡◌, ◌≤◌, ◌*◌, ◌+◌, take, sum_by}
use Rattle.qs_played.specs.audit.Schedule.{queries_in}
use Rattle.qs_plain_laws.specs.audit.PlainSchedule.{waits}
use Rattle.qs_plain.specs.client.Clients.{client_of_state}
use Rattle.qs_plain.proofs.client.client.ClientState.syncs.Given as goal

abbrev pub invariant-loop-block : goal.invariant-loop-block
invariant-loop-block l = record {
  value : l.syncs ≡ waits (client_of_state l.self).stage + sum_by queries_in (take l.block (client_of_state l.self).traces);
  limit : l.syncs ≤ 1 + l.block * 100000;
}
