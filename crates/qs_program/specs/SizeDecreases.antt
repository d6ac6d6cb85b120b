-- Each inner list has fewer statements than the list that it stands in.
use Rattle.std.specs.Prelude.{◌≤◌, max, List, [], ◌∷◌}
use Rattle.std.proofs.Common.{arith}
use denote.Param.Weighed.{most}
use Rattle.qs_program.specs.declared.code.Stmt.{Stmt}
use Rattle.qs_program.specs.declared.code.Stmt.TheVariants.{Command, Query, Assign, If, Repeat, Leave}
use Rattle.qs_program.specs.declared.code.Body.TheDeep.{deep-Stmt}
use Rattle.qs_program.specs.Views.{statements_of, size_of}

pub inner_smaller : (xs : List Stmt) → max (most deep-Stmt xs) 0 ≤ size_of (statements_of xs)
inner_smaller [] = omega arith
inner_smaller (Command c ∷ xs) = omega (arith, inner_smaller xs)
inner_smaller (Query x c ∷ xs) = omega (arith, inner_smaller xs)
inner_smaller (Assign x e ∷ xs) = omega (arith, inner_smaller xs)
inner_smaller (If t b first other ∷ xs) = omega (arith, inner_smaller xs)
inner_smaller (Repeat n body ∷ xs) = omega (arith, inner_smaller xs)
inner_smaller (Leave ∷ xs) = omega (arith, inner_smaller xs)
