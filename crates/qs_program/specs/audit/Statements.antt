-- Statements by number: a list of statements as a tree, each with the ones after it.
use Rattle.std.specs.Prelude.{ℕ, Bool}
use Rattle.qs_program.specs.declared.code.Expr.{Expr}
use Rattle.qs_program.specs.declared.code.Test.{Test}
use Rattle.qs_program.specs.declared.code.Call.{Call}

pub data Statements : Type 0 where
  end : Statements
  command : Call → (rest : Statements) → Statements
  query : (variable : ℕ) → Call → (rest : Statements) → Statements
  assign : (variable : ℕ) → Expr → (rest : Statements) → Statements
  choose : Test → (has_else : Bool) → (first other : Statements) → (rest : Statements) → Statements
  again : (count : ℕ) → (body : Statements) → (rest : Statements) → Statements
  leave : (rest : Statements) → Statements
