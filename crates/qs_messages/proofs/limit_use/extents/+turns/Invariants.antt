-- The most turns among the statements before this one. A statement has fewer statements in it than its list.
use Rattle.std.proofs.Common.{◌≡◌, ◌+◌, ◌*◌, max, drop}
use Rattle.qs_program.specs.Views.{single, size_of, statements_of}
use Rattle.qs_messages.specs.Extents.{turns_of}
use Rattle.qs_messages.proofs.limit_use.extents.+turns.Given as goal

abbrev pub decreases-body_turns : goal.decreases-body_turns
decreases-body_turns l = 2 * size_of l.body.now + 1

abbrev pub decreases-stmt_turns : goal.decreases-stmt_turns
decreases-stmt_turns l = 2 * size_of (single l.stmt.now)

abbrev pub invariant-body_turns-loop-stmt : goal.invariant-body_turns-loop-stmt
invariant-body_turns-loop-stmt l = max l.turns (turns_of (statements_of (drop l.stmt-index l.stmt-items))) ≡ turns_of (statements_of l.stmt-items)
