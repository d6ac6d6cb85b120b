-- Each inner list has fewer statements than the list that it stands in.
use Rattle.std.specs.Prelude.{◌≤◌, max, List, [], ◌∷◌}
use Rattle.std.proofs.Common.{arith}
use denote.Param.Weighed.{most}
use Rattle.qs_script.specs.declared.tree.tree.Stmt.{Stmt}
use Rattle.qs_script.specs.declared.tree.tree.Stmt.TheVariants.{Command}
use Rattle.qs_script.specs.declared.tree.tree.Body.TheDeep.{deep-Stmt}
use Rattle.qs_script.specs.tree.Views.{stmts_of, size_of}

pub inner_smaller : (xs : List Stmt) → max (most deep-Stmt xs) 0 ≤ size_of (stmts_of xs)
inner_smaller [] = omega arith
inner_smaller (Command c ∷ xs) = omega (arith, inner_smaller xs)
inner_smaller (_ ∷ xs) = omega (arith, inner_smaller xs)
