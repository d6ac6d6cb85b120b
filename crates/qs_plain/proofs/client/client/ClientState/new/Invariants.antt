use Rattle.std.proofs.Common.{◌≡◌, ◌<◌, ◌≤◌, ℕ, List, [], length, get_or, vec_capacity}
use Rattle.qs_program.specs.audit.Program.{block_at}
use Rattle.qs_plain.proofs.Names.{rest, places_of, AreQueues, QueueState}
use Rattle.qs_plain.proofs.client.client.ClientState.new.Given as goal

abbrev pub invariant-loop-index : goal.invariant-loop-index
invariant-loop-index l = record {
  frames : l.frames.items ≡ [];
  fits : (j : ℕ) → j < l.index → places_of (rest (block_at l.program l.number j).body) ≤ vec_capacity l.frames;
  many : length l.prepared.items ≡ l.index;
  stocked : (j : ℕ) (x : List (ℕ × QueueState)) → j < l.index → AreQueues l.number j (block_at l.program l.number j) (get_or l.prepared.items j x);
}
