use Rattle.std.proofs.Common.{◌≡◌, ◌<◌, ℕ, false}
use Rattle.qs_questions.proofs.Common.{client_at, same_name}
use Rattle.qs_questions.proofs.named.client_of.Given as goal

abbrev pub invariant-loop-client : goal.invariant-loop-client
invariant-loop-client l = (k : ℕ) → k < l.client → same_name l.name (client_at l.program k).name ≡ false
