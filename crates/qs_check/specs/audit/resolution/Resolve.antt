-- Scripts with each name replaced by its number.
use Rattle.std.specs.Prelude.{ℕ, Bool, true, false, List, [], ◌∷◌, map, Option, Some, None, if◌then◌else◌}
use Rattle.qs_objects.specs.declared.object.Kind.{Kind}
use Rattle.qs_script.specs.audit.tree.Tree as tree
use Rattle.qs_script.specs.declared.tree.tree.Atom as text_atom
use Rattle.qs_script.specs.declared.tree.tree.Atom.TheVariants as atoms
use Rattle.qs_script.specs.declared.tree.tree.Expr as text_expr
use Rattle.qs_script.specs.declared.tree.tree.Expr.TheVariants as exprs
use Rattle.qs_script.specs.declared.tree.tree.Test as text_test
use Rattle.qs_script.specs.declared.tree.tree.Call as text_call
use Rattle.qs_script.specs.declared.tree.tree.Block as text_block
use Rattle.qs_script.specs.declared.tree.tree.ClientItem.{ClientItem}
use Rattle.qs_script.specs.declared.tree.tree.Formal.{Formal}
use Rattle.qs_script.specs.declared.tree.tree.StartedItem.{StartedItem}
use Rattle.qs_script.specs.declared.tree.tree.TemplateItem.{TemplateItem}
use Rattle.qs_script.specs.declared.tree.tree.Item.{Item}
use Rattle.qs_script.specs.declared.tree.tree.Item.TheVariants as items
use Rattle.qs_program.specs.declared.code.Atom.{Atom}
use Rattle.qs_program.specs.declared.code.Atom.TheVariants.{Variable, Number}
use Rattle.qs_program.specs.declared.code.Expr.{Expr}
use Rattle.qs_program.specs.declared.code.Expr.TheVariants.{Plain, Binary}
use Rattle.qs_program.specs.declared.code.Test.{Test}
use Rattle.qs_program.specs.declared.code.Call.{Call}
use Rattle.qs_program.specs.declared.program.Declared.{Declared}
use Rattle.qs_program.specs.audit.Binding.{bound_block}
use Rattle.qs_program.specs.audit.Numbering.{Name, same_name, found_at}
use Rattle.qs_check.specs.audit.fault_places.Operators.{op_or_refused}
use Rattle.qs_program.specs.audit.Statements.{Statements, end, command, query, assign, choose, again, leave}
use Rattle.qs_program.specs.audit.Program.{BlockShape, ClientShape, ProgramShape}
use Rattle.qs_check.specs.audit.fault_places.Places.{op_at, formal_kind, kind_of}
use Rattle.qs_check.specs.audit.fault_places.Variables.{variables_of}

-- variables by the list of the client's
module _ (variables : List Name) where
  abbrev pub atom_of : text_atom.Atom → Atom
  atom_of (atoms.Variable x) = Variable (found_at variables x)
  atom_of (atoms.Number z) = Number z

  abbrev pub expr_of : text_expr.Expr → Expr
  expr_of (exprs.Plain a) = Plain (atom_of a)
  expr_of (exprs.Binary a op b) = Binary (atom_of a) op (atom_of b)

  abbrev pub test_of : text_test.Test → Test
  test_of t = record { left = atom_of t.left; relation = t.relation; right = atom_of t.right }

-- objects and their kinds by the lists of the program's
module _ (objects : List Name) (kinds : List Kind) (variables : List Name) where
  abbrev pub call_of : Bool → text_call.Call → Call
  call_of asks c =
      record {
        object = found_at objects c.object;
        op = op_or_refused (op_at objects kinds asks c.object c.op);
        args = map (atom_of variables) c.args;
      }

  abbrev pub body_of : tree.Stmts → Statements
  body_of tree.end = end
  body_of (tree.command c rest) = command (call_of false c) (body_of rest)
  body_of (tree.query x c rest) = query (found_at variables x) (call_of true c) (body_of rest)
  body_of (tree.assign x e rest) = assign (found_at variables x) (expr_of variables e) (body_of rest)
  body_of (tree.choose t first rest) = choose (test_of variables t) false (body_of first) end (body_of rest)
  body_of (tree.choose_else t first other rest) =
      choose (test_of variables t) true (body_of first) (body_of other) (body_of rest)
  body_of (tree.again n body rest) = again n (body_of body) (body_of rest)
  body_of (tree.leave rest) = leave (body_of rest)

  abbrev pub block_shape : text_block.Block → BlockShape
  block_shape b = record { reserved = map (found_at objects) b.reserved; body = body_of b.body }

abbrev pub client_shape : List Name → List Kind → ClientItem → ClientShape
client_shape objects kinds c =
    let variables = variables_of c in
    record {
      name = c.name;
      variables = variables;
      blocks = map (block_shape objects kinds variables) c.blocks;
      start = None;
    }

-- a template's blocks, as those of a client
abbrev pub as_client : TemplateItem → ClientItem
as_client t = record { name = t.name; blocks = t.blocks }

abbrev pub declared_formals : List Formal → List Declared
declared_formals fs = map (λ f. record { name = f.name; kind = formal_kind f.kind }) fs

-- a template by number, as a client over its formals
abbrev pub own_client : TemplateItem → ClientShape
own_client t =
    client_shape (map (λ d. d.name) (declared_formals t.formals)) (map (λ d. d.kind) (declared_formals t.formals))
    (as_client t)

-- the templates of a script, in text order
abbrev pub templates_in : List Item → List TemplateItem
templates_in [] = []
templates_in (items.Object o ∷ rest) = templates_in rest
templates_in (items.Client c ∷ rest) = templates_in rest
templates_in (items.Template t ∷ rest) = t ∷ templates_in rest
templates_in (items.Started c ∷ rest) = templates_in rest

-- the first template of a name
abbrev pub template_called : List TemplateItem → Name → Option TemplateItem
template_called [] n = None
template_called (t ∷ ts) n = if same_name n t.name then Some t else template_called ts n

abbrev pub binding_of : List Name → StartedItem → List ℕ
binding_of objects c = map (found_at objects) c.objects

-- a client of a template: the template's blocks with each formal replaced by its object
abbrev pub started_of : List Name → Option TemplateItem → StartedItem → ClientShape
started_of objects None c = record { name = c.name; variables = []; blocks = []; start = None }
started_of objects (Some t) c =
    let own = own_client t in
    let binding = binding_of objects c in
    record {
      name = c.name;
      variables = own.variables;
      blocks = map (bound_block binding) own.blocks;
      start = Some (record { formals = declared_formals t.formals; binding = binding; blocks = own.blocks });
    }

-- the objects of a script, in text order
abbrev pub objects_of : List Item → List Declared
objects_of [] = []
objects_of (items.Object o ∷ rest) = record { name = o.name; kind = kind_of o.kind } ∷ objects_of rest
objects_of (items.Client c ∷ rest) = objects_of rest
objects_of (items.Template t ∷ rest) = objects_of rest
objects_of (items.Started c ∷ rest) = objects_of rest

abbrev pub names_of : List Item → List Name
names_of is = map (λ o. o.name) (objects_of is)

abbrev pub kinds_of : List Item → List Kind
kinds_of is = map (λ o. o.kind) (objects_of is)

abbrev pub clients_of : List TemplateItem → List Name → List Kind → List Item → List ClientShape
clients_of templates objects kinds [] = []
clients_of templates objects kinds (items.Object o ∷ rest) = clients_of templates objects kinds rest
clients_of templates objects kinds (items.Client c ∷ rest) =
    client_shape objects kinds c ∷ clients_of templates objects kinds rest
clients_of templates objects kinds (items.Template t ∷ rest) = clients_of templates objects kinds rest
clients_of templates objects kinds (items.Started c ∷ rest) =
    started_of objects (template_called templates c.template) c ∷ clients_of templates objects kinds rest

-- a whole script by number
abbrev pub program_of_items : List Item → ProgramShape
program_of_items is =
    record { objects = objects_of is; clients = clients_of (templates_in is) (names_of is) (kinds_of is) is }
