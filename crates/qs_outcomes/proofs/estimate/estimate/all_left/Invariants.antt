use Rattle.std.proofs.Common.{◌≡◌, ◌==◌, ◌<◌, ◌-◌, ℕ, count_by, get_or, length}
use Rattle.qs_program.specs.audit.Program.{blocks_of}
use Rattle.qs_outcomes.proofs.estimate.estimate.all_left.Given as goal

abbrev pub invariant-loop-client : goal.invariant-loop-client
invariant-loop-client l = record {
  long : length l.left ≡ 8;
  done : (i : ℕ) → i < l.client → get_or l.left i 0 ≡ blocks_of l.program i - count_by (λ c. c == i) l.front;
}
