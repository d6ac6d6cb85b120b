-- Texts over formal names, and what they are once each name stands for an object.
use Rattle.std.specs.Prelude.{ℕ, not, ◌==◌, List, [], ◌∷◌, filter, map, slice_index_or}
use Rattle.qs_program.specs.audit.Program.{BlockShape}
use Rattle.qs_program.specs.audit.Statements.{Statements, end, command, query, assign, choose, again, leave}
use Rattle.qs_program.specs.declared.code.Call.{Call}

-- the object that a name stands for; a name past the binding is the number of its object, so with no binding each is
abbrev pub bound : List ℕ → ℕ → ℕ
bound binding name = slice_index_or binding name name

module _ (binding : List ℕ) where
  abbrev pub bound_call : Call → Call
  bound_call c = record { object = bound binding c.object; op = c.op; args = c.args }

  abbrev pub bound_statements : Statements → Statements
  bound_statements end = end
  bound_statements (command c rest) = command (bound_call c) (bound_statements rest)
  bound_statements (query x c rest) = query x (bound_call c) (bound_statements rest)
  bound_statements (assign x e rest) = assign x e (bound_statements rest)
  bound_statements (choose t has_else first other rest) =
      choose t has_else (bound_statements first) (bound_statements other) (bound_statements rest)
  bound_statements (again n body rest) = again n (bound_statements body) (bound_statements rest)
  bound_statements (leave rest) = leave (bound_statements rest)

-- each number where it comes first
abbrev pub first_of_each : List ℕ → List ℕ
first_of_each [] = []
first_of_each (x ∷ xs) = x ∷ filter (λ y. not (y == x)) (first_of_each xs)

-- an object that comes again in the list is left out there, so it is reserved once
abbrev pub bound_block : List ℕ → BlockShape → BlockShape
bound_block binding b =
    record { reserved = first_of_each (map (bound binding) b.reserved); body = bound_statements binding b.body }
