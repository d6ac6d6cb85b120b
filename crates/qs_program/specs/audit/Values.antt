-- What expressions, tests and requests are worth, by the client's variables.
use Rattle.std.specs.Prelude.{Bool, not, ◌||◌, List, map, slice_index_or, ℤ, pos, ◌+ℤ◌, ◌-ℤ◌, ◌*ℤ◌, int_lt}
use Rattle.qs_objects.specs.audit.Act.{clamp_to_word}
use Rattle.qs_objects.specs.declared.Request.{Request}
use Rattle.qs_script.specs.declared.tree.tree.Operator.{Operator}
use Rattle.qs_script.specs.declared.tree.tree.Operator.TheVariants.{Plus, Minus, Times}
use Rattle.qs_script.specs.declared.tree.tree.Relation.{Relation}
use Rattle.qs_script.specs.declared.tree.tree.Relation.TheVariants.{Equal, Unequal, Less, AtMost, Greater, AtLeast}
use Rattle.qs_program.specs.declared.code.Atom.{Atom}
use Rattle.qs_program.specs.declared.code.Atom.TheVariants.{Variable, Number}
use Rattle.qs_program.specs.declared.code.Expr.{Expr}
use Rattle.qs_program.specs.declared.code.Expr.TheVariants.{Plain, Binary}
use Rattle.qs_program.specs.declared.code.Test.{Test}
use Rattle.qs_program.specs.declared.code.Call.{Call}

-- the values of a client's variables, by their numbers
abbrev pub Locals : Type 0
Locals = List ℤ

abbrev pub atom_value : Locals → Atom → ℤ
atom_value l (Variable x) = slice_index_or l x (pos 0)
atom_value l (Number n) = n

abbrev pub exact : Operator → ℤ → ℤ → ℤ
exact Plus a b = a +ℤ b
exact Minus a b = a -ℤ b
exact Times a b = a *ℤ b

-- exact, then clamped to 64 bits
abbrev pub expr_value : Locals → Expr → ℤ
expr_value l (Plain a) = atom_value l a
expr_value l (Binary a op b) = clamp_to_word (exact op (atom_value l a) (atom_value l b))

abbrev pub relates : Relation → ℤ → ℤ → Bool
relates Equal a b = not (int_lt a b || int_lt b a)
relates Unequal a b = int_lt a b || int_lt b a
relates Less a b = int_lt a b
relates AtMost a b = not (int_lt b a)
relates Greater a b = int_lt b a
relates AtLeast a b = not (int_lt a b)

abbrev pub test_value : Locals → Test → Bool
test_value l t = relates t.relation (atom_value l t.left) (atom_value l t.right)

-- the request that a call makes: its arguments are evaluated as it is made
abbrev pub request_of : Locals → Call → Request
request_of l c = record { object = c.object; op = c.op; args = map (atom_value l) c.args }
