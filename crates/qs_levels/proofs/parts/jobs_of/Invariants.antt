use Rattle.std.proofs.Common.{◌≡◌, ◌<◌, ℕ, length, slice_index_or}
use Rattle.qs_levels.proofs.parts.jobs_of.Given as goal

abbrev pub invariant-loop-number : goal.invariant-loop-number
invariant-loop-number l = record {
  len : length l.jobs.items ≡ l.number;
  numbers : (i : ℕ) (job : _) → i < l.number → job ≡ slice_index_or l.jobs.items i job → job.number ≡ i;
}
