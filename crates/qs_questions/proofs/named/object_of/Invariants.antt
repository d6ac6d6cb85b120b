use Rattle.std.proofs.Common.{◌≡◌, ◌<◌, ℕ, false}
use Rattle.qs_questions.proofs.Common.{object_at, same_name}
use Rattle.qs_questions.proofs.named.object_of.Given as goal

abbrev pub invariant-loop-object : goal.invariant-loop-object
invariant-loop-object l = (k : ℕ) → k < l.object → same_name l.name (object_at l.program k).name ≡ false
