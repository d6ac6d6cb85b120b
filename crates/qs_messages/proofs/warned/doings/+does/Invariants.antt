-- None of the statements before this one does it. A statement has fewer statements in it than its list.
use Rattle.std.proofs.Common.{◌≡◌, ◌+◌, ◌*◌, drop}
use Rattle.qs_program.specs.Views.{single, size_of, statements_of}
use Rattle.qs_messages.specs.Doings.{does}
use Rattle.qs_messages.proofs.warned.doings.+does.Given as goal

abbrev pub decreases-body_does : goal.decreases-body_does
decreases-body_does l = 2 * size_of l.body.now + 1

abbrev pub decreases-stmt_does : goal.decreases-stmt_does
decreases-stmt_does l = 2 * size_of (single l.stmt.now)

abbrev pub invariant-body_does-loop-stmt : goal.invariant-body_does-loop-stmt
invariant-body_does-loop-stmt l = does l.doing (statements_of (drop l.stmt-index l.stmt-items)) ≡ does l.doing (statements_of l.stmt-items)
