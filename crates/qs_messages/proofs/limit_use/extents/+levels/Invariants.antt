-- The depth of the statements before this one. A statement has fewer statements in it than its list.
use Rattle.std.proofs.Common.{◌≡◌, ◌+◌, ◌*◌, ◌≤◌, max, min, drop}
use Rattle.qs_program.specs.Sound.{levels_of}
use Rattle.qs_program.specs.Views.{single, size_of, statements_of}
use Rattle.qs_messages.proofs.limit_use.extents.+levels.Given as goal

abbrev pub decreases-body_levels : goal.decreases-body_levels
decreases-body_levels l = 2 * size_of l.body.now + 1

abbrev pub decreases-stmt_levels : goal.decreases-stmt_levels
decreases-stmt_levels l = 2 * size_of (single l.stmt.now)

abbrev pub invariant-body_levels-loop-stmt : goal.invariant-body_levels-loop-stmt
invariant-body_levels-loop-stmt l = record {
  small : l.levels ≤ 255;
  whole : min (max l.levels (levels_of (statements_of (drop l.stmt-index l.stmt-items)))) 255 ≡ min (levels_of (statements_of l.stmt-items)) 255;
}
