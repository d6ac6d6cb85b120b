-- What statements do, inner ones too: assign a variable, set one by a query, read one, or make requests on an object.
use Rattle.std.specs.Prelude.{ℕ, Bool, false, ◌==◌, ◌||◌}
use Rattle.std.specs.List.{list_any}
use Rattle.qs_program.specs.declared.code.Atom.{Atom}
use Rattle.qs_program.specs.declared.code.Atom.TheVariants.{Variable, Number}
use Rattle.qs_program.specs.declared.code.Call.{Call}
use Rattle.qs_program.specs.declared.code.Expr.{Expr}
use Rattle.qs_program.specs.declared.code.Expr.TheVariants.{Plain, Binary}
use Rattle.qs_program.specs.declared.code.Test.{Test}
use Rattle.qs_program.specs.audit.Statements.{Statements, end, command, query, assign, choose, again, leave}
use Rattle.qs_messages.specs.declared.warned.doings.Doing.{Doing}
use Rattle.qs_messages.specs.declared.warned.doings.Doing.TheVariants.{Assigns, Asks, Reads, Calls}

-- an assignment sets its variable
abbrev pub is_assigning : Doing → ℕ → Bool
is_assigning (Assigns v) x = x == v
is_assigning (Asks v) x = false
is_assigning (Reads v) x = false
is_assigning (Calls h) x = false

-- and so does a query
abbrev pub is_asking : Doing → ℕ → Bool
is_asking (Asks v) x = x == v
is_asking (Assigns v) x = false
is_asking (Reads v) x = false
is_asking (Calls h) x = false

-- a value that is written as a variable reads it
abbrev pub is_reading : Doing → Atom → Bool
is_reading (Reads v) (Variable x) = x == v
is_reading (Reads v) (Number n) = false
is_reading (Assigns v) a = false
is_reading (Asks v) a = false
is_reading (Calls h) a = false

abbrev pub is_calling : Doing → ℕ → Bool
is_calling (Calls h) o = o == h
is_calling (Assigns v) o = false
is_calling (Asks v) o = false
is_calling (Reads v) o = false

-- a request is made on its object, and reads its arguments
abbrev pub call_does : Doing → Call → Bool
call_does d c = is_calling d c.object || list_any (is_reading d) c.args

abbrev pub expr_does : Doing → Expr → Bool
expr_does d (Plain a) = is_reading d a
expr_does d (Binary a op b) = is_reading d a || is_reading d b

abbrev pub test_does : Doing → Test → Bool
test_does d t = is_reading d t.left || is_reading d t.right

abbrev pub does : Doing → Statements → Bool
does d end = false
does d (command c rest) = does d rest || call_does d c
does d (query x c rest) = does d rest || (is_asking d x || call_does d c)
does d (assign x e rest) = does d rest || (is_assigning d x || expr_does d e)
does d (choose t has_else first other rest) = does d rest || (test_does d t || (does d first || does d other))
does d (again n body rest) = does d rest || does d body
does d (leave rest) = does d rest
