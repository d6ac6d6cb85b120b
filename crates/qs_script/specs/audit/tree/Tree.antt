-- Requests of their parts, and lists of statements without places in memory.
use Rattle.std.specs.Prelude.{ℕ, List}
use Rattle.qs_script.specs.declared.tree.tree.Call.{Call}
use Rattle.qs_script.specs.declared.tree.tree.Expr.{Expr}
use Rattle.qs_script.specs.declared.tree.tree.Test.{Test}

-- a list of statements: each with the ones after it
pub data Stmts : Type 0 where
  end : Stmts
  command : Call → (rest : Stmts) → Stmts
  query : (variable : List ℕ) → Call → (rest : Stmts) → Stmts
  assign : (variable : List ℕ) → Expr → (rest : Stmts) → Stmts
  -- an if without else
  choose : Test → (first : Stmts) → (rest : Stmts) → Stmts
  -- an if with else
  choose_else : Test → (first : Stmts) → (other : Stmts) → (rest : Stmts) → Stmts
  again : (count : ℕ) → (body : Stmts) → (rest : Stmts) → Stmts
  leave : (rest : Stmts) → Stmts
