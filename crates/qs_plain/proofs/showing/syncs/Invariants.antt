use Rattle.std.proofs.Common.{◌≡◌, ◌≤◌, ◌*◌, suc, take, sum_by}
use Rattle.qs_program.specs.audit.Limits.{most_blocks, most_requests}
use Rattle.qs_plain_laws.specs.audit.PlainSchedule.{syncs_of}
use Rattle.qs_plain.specs.client.Clients.{ClientState, client_of_state}
use Rattle.qs_plain.proofs.showing.syncs.Given as goal

abbrev pub invariant-loop-client : goal.invariant-loop-client
invariant-loop-client l = record {
  value : l.syncs ≡ sum_by (λ (d : ClientState). syncs_of (client_of_state d)) (take l.client-index l.clients);
  limit : l.syncs ≤ l.client-index * suc (most_blocks * most_requests);
}
