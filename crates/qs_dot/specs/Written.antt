-- What the statement of a node says, as a script writes it.
use Rattle.std.specs.Prelude.{ℕ, List, [], ◌++◌, codes, decimal, slice_index_or}
use Rattle.std.specs.Fmt.{signed_decimal}
use Rattle.std.specs.List.{join_by}
use Rattle.qs_objects.specs.declared.Op.{Op}
use Rattle.qs_script.specs.declared.tree.tree.Operator.{Operator}
use Rattle.qs_script.specs.declared.tree.tree.Operator.TheVariants.{Plus, Minus, Times}
use Rattle.qs_script.specs.declared.tree.tree.Relation.{Relation}
use Rattle.qs_script.specs.declared.tree.tree.Relation.TheVariants.{Equal, Unequal, Less, AtMost, Greater, AtLeast}
use Rattle.qs_program.specs.declared.code.Atom.{Atom}
use Rattle.qs_program.specs.declared.code.Atom.TheVariants.{Variable, Number}
use Rattle.qs_program.specs.declared.code.Expr.{Expr}
use Rattle.qs_program.specs.declared.code.Expr.TheVariants.{Plain, Binary}
use Rattle.qs_program.specs.declared.code.Call as calls
use Rattle.qs_program.specs.declared.code.Test.{Test}
use Rattle.qs_program.specs.audit.Numbering.{Name}
use Rattle.qs_program.specs.audit.Program.{ProgramShape, client_at}
use Rattle.qs_graph.specs.declared.node.Action.{Action}
use Rattle.qs_graph.specs.declared.node.Action.TheVariants.{Assign, SetCount, Nothing}
use Rattle.qs_graph.specs.declared.node.Choice.{Choice}
use Rattle.qs_graph.specs.declared.node.Choice.TheVariants.{If, Repeat}
use Rattle.qs_graph.specs.declared.node.Node.{Node}
use Rattle.qs_graph.specs.declared.node.Node.TheVariants.{Entry, Local, Branch, Sync, Query, Call, Exit}
use Rattle.qs_text.specs.Words.{name_of}
use Rattle.qs_objects.specs.audit.Operations.{word}

abbrev pub operator_text : Operator → List ℕ
operator_text Plus = codes "+"
operator_text Minus = codes "-"
operator_text Times = codes "*"

abbrev pub relation_text : Relation → List ℕ
relation_text Equal = codes "=="
relation_text Unequal = codes "!="
relation_text Less = codes "<"
relation_text AtMost = codes "<="
relation_text Greater = codes ">"
relation_text AtLeast = codes ">="

-- the values of a client whose variables have these names
module _ (names : List Name) where
  abbrev pub variable_text : ℕ → List ℕ
  variable_text x = slice_index_or names x []

  abbrev pub atom_text : Atom → List ℕ
  atom_text (Variable x) = variable_text x
  atom_text (Number n) = signed_decimal n

  abbrev pub atoms_text : List Atom → List ℕ
  atoms_text atoms = join_by atom_text (codes ",") atoms

  abbrev pub expression_text : Expr → List ℕ
  expression_text (Plain a) = atom_text a
  expression_text (Binary a op b) = atom_text a ++ codes " " ++ operator_text op ++ codes " " ++ atom_text b

  abbrev pub test_text : Test → List ℕ
  test_text t = atom_text t.left ++ codes " " ++ relation_text t.relation ++ codes " " ++ atom_text t.right

  abbrev pub action_text : Action → List ℕ
  action_text (Assign x e) = variable_text x ++ codes " = " ++ expression_text e
  action_text (SetCount n) = codes "repeat " ++ decimal n
  action_text Nothing = codes "leave"

  abbrev pub choice_text : Choice → List ℕ
  choice_text (If t) = codes "if " ++ test_text t
  choice_text Repeat = codes "again"

abbrev pub names_of_variables : ProgramShape → (c : ℕ) → List Name
names_of_variables p c = (client_at p c).variables

-- the word of an operation, after the name of its object and before its arguments
abbrev pub opened_text : Op → List ℕ
opened_text op = codes "." ++ word op ++ codes "("

-- a call of client c, with its own names
abbrev pub call_text : ProgramShape → (c : ℕ) → calls.Call → List ℕ
call_text p c q =
    name_of p c q.object ++ opened_text q.op ++ atoms_text (names_of_variables p c) q.args ++ codes ")"

-- what a node of client c does
abbrev pub written : ProgramShape → (c : ℕ) → Node → List ℕ
written p c Entry = codes "entry"
written p c (Local a) = action_text (names_of_variables p c) a
written p c (Branch b) = choice_text (names_of_variables p c) b
written p c (Sync h) = codes "sync " ++ name_of p c h
written p c (Query x q) = variable_text (names_of_variables p c) x ++ codes " = " ++ call_text p c q
written p c (Call q) = call_text p c q
written p c Exit = codes "exit"
