use Rattle.std.proofs.Common.{◌≡◌, ◌<◌, ℕ, length, get_or}
use Rattle.qs_core.proofs.Names.{CoreClientState, IsFreshClient}
use Rattle.qs_core.proofs.core_machine.fresh_clients.Given as goal

abbrev pub invariant-loop-number : goal.invariant-loop-number
invariant-loop-number l = record {
  many : length l.clients.items ≡ l.number;
  each : (c : ℕ) (d : CoreClientState) → c < l.number → IsFreshClient l.program l.mode l.size c (get_or l.clients.items c d);
}
