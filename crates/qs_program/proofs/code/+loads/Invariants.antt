use Rattle.std.proofs.Common.{◌≡◌, ◌≤◌, ◌<◌, ◌+◌, ◌*◌, ℕ, min, slice_index_or, drop}
use Rattle.qs_program.specs.audit.Limits.{most_objects, most_requests, most_steps}
use Rattle.qs_program.specs.audit.Loads.{load_of, weight_of}
use Rattle.qs_program.specs.Views.{statements_of, single, size_of}
use Rattle.qs_program.proofs.code.+loads.Given as goal

abbrev pub decreases-Body::add_loads : goal.decreases-Body::add_loads
decreases-Body::add_loads l = 3 * size_of l.self.now + 2

abbrev pub decreases-Stmt::add_loads : goal.decreases-Stmt::add_loads
decreases-Stmt::add_loads l = 3 * size_of (single l.self.now) + 1

abbrev pub decreases-add_greater_loads : goal.decreases-add_greater_loads
decreases-add_greater_loads l = 3 * (size_of l.first.now + size_of l.other.now) + 3

abbrev pub invariant-Body::add_loads-loop-stmt : goal.invariant-Body::add_loads-loop-stmt
invariant-Body::add_loads-loop-stmt l = record {
  small : (h : ℕ) → h < most_objects → slice_index_or l.loads h 0 ≤ most_requests + 1;
  whole : (h : ℕ) → h < most_objects → min (slice_index_or l.loads h 0 + l.turns * load_of (statements_of (drop l.stmt-index l.stmt-items)) h) (most_requests + 1) ≡ min (slice_index_or l.initial.loads h 0 + l.turns * load_of (statements_of l.stmt-items) h) (most_requests + 1);
  light : l.weight ≤ most_steps + 1;
  weights : min (l.weight + weight_of (statements_of (drop l.stmt-index l.stmt-items))) (most_steps + 1) ≡ min (weight_of (statements_of l.stmt-items)) (most_steps + 1);
}
