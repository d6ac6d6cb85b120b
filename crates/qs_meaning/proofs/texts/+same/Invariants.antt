use Rattle.std.proofs.Common.{◌+◌, ◌*◌, drop}
use Rattle.qs_meaning.proofs.Common.{AllZip}
use Rattle.qs_meaning.proofs.TextWalks.{SameStmt}
use Rattle.qs_program.specs.Views.{single, size_of}
use Rattle.qs_meaning.proofs.texts.+same.Given as goal

abbrev pub invariant-is_same_body-loop-place : goal.invariant-is_same_body-loop-place
invariant-is_same_body-loop-place g l =
    AllZip (SameStmt (g.M.Matching.Objects l.matching) (g.M.Matching.Variables l.matching)) (drop l.place l.stmts) (drop l.place l.others)
    → AllZip (SameStmt (g.M.Matching.Objects l.matching) (g.M.Matching.Variables l.matching)) l.stmts l.others

abbrev pub decreases-is_same_body : goal.decreases-is_same_body
decreases-is_same_body g l = 2 * size_of l.here.now + 1

abbrev pub decreases-is_same_stmt : goal.decreases-is_same_stmt
decreases-is_same_stmt g l = 2 * size_of (single l.here.now)
