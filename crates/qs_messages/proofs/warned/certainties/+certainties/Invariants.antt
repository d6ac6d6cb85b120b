-- What is noted, with what becomes of the statements from this one on, is the whole. A statement has fewer statements
-- in it than its list.
use Rattle.std.proofs.Common.{◌≡◌, ◌+◌, ◌*◌, ◌++◌, drop}
use Rattle.qs_program.specs.Views.{single, size_of, statements_of}
use Rattle.qs_messages.specs.Certainties.{certainties_of}
use Rattle.qs_messages.proofs.warned.certainties.+certainties.Given as goal

abbrev pub decreases-add_certainties : goal.decreases-add_certainties
decreases-add_certainties l = 2 * size_of l.body.now + 1

abbrev pub decreases-add_stmt : goal.decreases-add_stmt
decreases-add_stmt l = 2 * size_of (single l.stmt.now)

abbrev pub invariant-add_certainties-loop-stmt : goal.invariant-add_certainties-loop-stmt
invariant-add_certainties-loop-stmt l =
    l.out.items ++ certainties_of l.program (statements_of (drop l.stmt-index l.stmt-items)) ≡ l.initial.out.items ++ certainties_of l.program (statements_of l.stmt-items)
