use Rattle.std.proofs.Common.{◌≡◌, ◌<◌, ℕ, length, get_or}
use Rattle.qs_plain.specs.client.Clients.{ClientState, IsFresh}
use Rattle.qs_plain.proofs.client.client.fresh_clients.Given as goal

abbrev pub invariant-loop-number : goal.invariant-loop-number
invariant-loop-number l = record {
  many : length l.clients.items ≡ l.number;
  each : (c : ℕ) (d : ClientState) → c < l.number → IsFresh l.program c (get_or l.clients.items c d);
}
