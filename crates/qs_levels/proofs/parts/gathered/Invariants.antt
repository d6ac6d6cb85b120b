use Rattle.qs_levels.proofs.Common.{◌≡◌, ◌<◌, ◌≤◌, ℕ, [], length, slice_index_or, vec_len, IsPartOf}
use Rattle.qs_levels.proofs.parts.gathered.Given as goal

abbrev pub invariant-loop-number : goal.invariant-loop-number
invariant-loop-number l = record {
  parts : (i : ℕ) → i < length l.parts.items → IsPartOf l.step.search.program.now l.step.search.front.now i l.count l.step.level.now.standings (slice_index_or l.parts.items i []);
  count : length l.parts.items ≡ l.number;
  long : vec_len l.results ≡ l.count;
  behind : (k : ℕ) (d : _) → l.number ≤ k → slice_index_or l.results.items k d ≡ slice_index_or l.initial.results.items k d;
}
