-- Which scripts are well formed: conditions on the tree, in whichever order they are tested.
use Rattle.std.specs.Prelude.{◌≡◌, ◌≢◌, ◌≤◌, ◌<◌, ◌↔◌, ℕ, Bool, true, false, List, [], ◌∷◌, ◌++◌, length, map, Some, None, Result, Ok, Err}
use Rattle.std.specs.List.{AllByRecursion, Contains, IsDistinct}
use Rattle.std.specs.Set.{distinct_count}
use Rattle.qs_objects.specs.declared.Op.{Op}
use Rattle.qs_objects.specs.declared.object.Kind.{Kind}
use Rattle.qs_objects.specs.audit.Operations.{arity}
use Rattle.qs_script.specs.declared.tree.tree.Atom.{Atom}
use Rattle.qs_script.specs.declared.tree.tree.Atom.TheVariants.{Variable, Number}
use Rattle.qs_script.specs.declared.tree.tree.Expr.{Expr}
use Rattle.qs_script.specs.declared.tree.tree.Expr.TheVariants.{Plain, Binary}
use Rattle.qs_script.specs.declared.tree.tree.Test.{Test}
use Rattle.qs_script.specs.declared.tree.tree.Call.{Call}
use Rattle.qs_script.specs.declared.tree.tree.Block.{Block}
use Rattle.qs_script.specs.declared.tree.tree.KindText.{KindText}
use Rattle.qs_script.specs.declared.tree.tree.KindText.TheVariants.{Account, Buffer, Grid}
use Rattle.qs_script.specs.declared.tree.tree.Formal.{Formal}
use Rattle.qs_script.specs.declared.tree.tree.ClientItem.{ClientItem}
use Rattle.qs_script.specs.declared.tree.tree.TemplateItem.{TemplateItem}
use Rattle.qs_script.specs.declared.tree.tree.StartedItem.{StartedItem}
use Rattle.qs_script.specs.declared.tree.tree.Item.{Item}
use Rattle.qs_script.specs.declared.tree.tree.Item.TheVariants.{Object, Client, Template, Started}
use Rattle.qs_script.specs.audit.tree.Tree.{Stmts, end, command, query, assign, choose, choose_else, again, leave}
use Rattle.qs_script.specs.tree.Form.{levels_of, HasForm}
use Rattle.qs_objects.specs.audit.Limits.{greatest_balance, most_lines, most_values}
use Rattle.qs_script.specs.audit.tree.Limits.{most_levels}
use Rattle.qs_program.specs.audit.Limits.{most_blocks, most_clients, most_objects, most_requests, most_steps, most_turns, most_variables}
use Rattle.qs_program.specs.Limits.{most_formals}
use Rattle.qs_check.specs.declared.fault_places.fault.CheckFault.{CheckFault}
use Rattle.qs_check.specs.declared.fault_places.fault.CheckFault.TheVariants as f
use Rattle.qs_program.specs.declared.program.Declared.{Declared}
use Rattle.qs_program.specs.audit.Kinds.{same_kind}
use Rattle.qs_program.specs.audit.Numbering.{Name, same_name}
use Rattle.qs_check.specs.audit.fault_places.Operators.{op_of}
use Rattle.qs_check.specs.audit.fault_places.Places.{formal_kind, kind_of, most_templates}
use Rattle.qs_program.specs.audit.Program.{ProgramShape}
use Rattle.qs_check.specs.audit.resolution.Resolve.{as_client, declared_formals, names_of, objects_of, template_called, templates_in}
use Rattle.qs_check.specs.TextLoads.{text_load, text_weight}
use Rattle.qs_check.specs.audit.Checked.{fault_of}

abbrev pub IsBetween : (low high : ℕ) → ℕ → Type 0
IsBetween low high n = (low ≤ n) × (n ≤ high)

abbrev pub IsKindInRange : KindText → Type 0
IsKindInRange (Account n) = IsBetween 0 greatest_balance n
IsKindInRange (Buffer n) = IsBetween 1 most_values n
IsKindInRange (Grid r c) = IsBetween 1 most_lines r × IsBetween 1 most_lines c

-- a request on an object of the block's list, which is declared with a kind that has the operation, with its number of
-- arguments
pub record IsRequest (declared : List Declared) (reserved : List Name) (asks : Bool) (c : Call) : Type 0 where
  pub reserves : Contains reserved c.object
  pub kind : Kind
  pub declares : Contains declared (record { name = c.object; kind = kind })
  pub op : Op
  pub has : op_of asks kind c.op ≡ Some op
  pub arity : length c.args ≡ arity op

-- statements of a block with this list, inside a repeat or not
module _ (declared : List Declared) (reserved : List Name) where
  abbrev pub AreStatements : (inside : Bool) → Stmts → Type 0
  AreStatements inside end = Unit {0}
  AreStatements inside (command c rest) = IsRequest declared reserved false c × AreStatements inside rest
  AreStatements inside (query x c rest) = IsRequest declared reserved true c × AreStatements inside rest
  AreStatements inside (assign x e rest) = AreStatements inside rest
  AreStatements inside (choose t first rest) = AreStatements inside first × AreStatements inside rest
  AreStatements inside (choose_else t first other rest) =
      AreStatements inside first × AreStatements inside other × AreStatements inside rest
  AreStatements inside (again n body rest) = (n ≤ most_turns) × AreStatements true body × AreStatements inside rest
  AreStatements inside (leave rest) = (inside ≡ true) × AreStatements inside rest

-- the names of variables, assigned or read
abbrev pub atom_names : Atom → List Name
atom_names (Variable x) = x ∷ []
atom_names (Number n) = []

abbrev pub atoms_names : List Atom → List Name
atoms_names [] = []
atoms_names (a ∷ as') = atom_names a ++ atoms_names as'

abbrev pub expr_names : Expr → List Name
expr_names (Plain a) = atom_names a
expr_names (Binary a op b) = atom_names a ++ atom_names b

abbrev pub test_names : Test → List Name
test_names t = atom_names t.left ++ atom_names t.right

abbrev pub variables_in : Stmts → List Name
variables_in end = []
variables_in (command c rest) = atoms_names c.args ++ variables_in rest
variables_in (query x c rest) = x ∷ (atoms_names c.args ++ variables_in rest)
variables_in (assign x e rest) = x ∷ (expr_names e ++ variables_in rest)
variables_in (choose t first rest) = test_names t ++ (variables_in first ++ variables_in rest)
variables_in (choose_else t first other rest) =
    test_names t ++ (variables_in first ++ (variables_in other ++ variables_in rest))
variables_in (again n body rest) = variables_in body ++ variables_in rest
variables_in (leave rest) = variables_in rest

abbrev pub variables_in_all : List Block → List Name
variables_in_all [] = []
variables_in_all (b ∷ bs) = variables_in b.body ++ variables_in_all bs

abbrev pub IsDeclared : List Declared → Name → Type 0
IsDeclared declared o = Contains (map (λ d. d.name) declared) o

-- its list has declared objects, at least one and none twice; a statement stands inside at most eight others
pub record IsWellFormedBlock (declared : List Declared) (b : Block) : Type 0 where
  pub some : 0 < length b.reserved
  pub declares : AllByRecursion (IsDeclared declared) b.reserved
  pub distinct : IsDistinct same_name b.reserved
  pub statements : AreStatements declared b.reserved false b.body
  pub levels : levels_of b.body ≤ most_levels

-- at most 64 blocks and 16 variables
pub record IsWellFormedClient (declared : List Declared) (c : ClientItem) : Type 0 where
  pub blocks : length c.blocks ≤ most_blocks
  pub variables : distinct_count same_name (variables_in_all c.blocks) ≤ most_variables
  pub each : AllByRecursion (IsWellFormedBlock declared) c.blocks

-- at most 8 formals, each by a name of its own; its blocks are those of a client that has the formals for objects
pub record IsWellFormedTemplate (t : TemplateItem) : Type 0 where
  pub formals : length t.formals ≤ most_formals
  pub apart : IsDistinct same_name (map (λ f. f.name) t.formals)
  pub client : IsWellFormedClient (declared_formals t.formals) (as_client t)

-- a declared object of the formal's kind
pub record IsGiven (declared : List Declared) (f : Formal) (o : Name) : Type 0 where
  pub kind : Kind
  pub declares : Contains declared (record { name = o; kind = kind })
  pub same : same_kind (formal_kind f.kind) kind ≡ true

-- for each formal such an object
abbrev pub AreGiven : List Declared → List Formal → List Name → Type 0
AreGiven declared [] [] = Unit {0}
AreGiven declared (f ∷ fs) (o ∷ os) = IsGiven declared f o × AreGiven declared fs os
AreGiven declared _ _ = ⊥

-- a client of a template that is declared before it
pub record IsWellFormedStart (templates : List TemplateItem) (declared : List Declared) (c : StartedItem) : Type 0 where
  pub template : TemplateItem
  pub called : template_called templates c.template ≡ Some template
  pub objects : AreGiven declared template.formals c.objects

-- items after the objects and the templates that are declared
abbrev pub AreItems : (declared : List Declared) → (templates : List TemplateItem) → List Item → Type 0
AreItems declared templates [] = Unit {0}
AreItems declared templates (Object o ∷ rest) =
    IsKindInRange o.kind × AreItems (declared ++ record { name = o.name; kind = kind_of o.kind } ∷ []) templates rest
AreItems declared templates (Client c ∷ rest) = IsWellFormedClient declared c × AreItems declared templates rest
AreItems declared templates (Template t ∷ rest) = IsWellFormedTemplate t × AreItems declared (templates ++ t ∷ []) rest
AreItems declared templates (Started c ∷ rest) =
    IsWellFormedStart templates declared c × AreItems declared templates rest

-- the names of all clients
abbrev pub client_names : List Item → List Name
client_names [] = []
client_names (Object o ∷ rest) = client_names rest
client_names (Client c ∷ rest) = c.name ∷ client_names rest
client_names (Template t ∷ rest) = client_names rest
client_names (Started c ∷ rest) = c.name ∷ client_names rest

-- at most 8 objects, 8 clients and 8 templates, each by a name of its own; load and weight have their limits
pub record IsWellFormed (items : List Item) : Type 0 where
  pub objects : length (objects_of items) ≤ most_objects
  pub objects_apart : IsDistinct same_name (names_of items)
  pub clients : length (client_names items) ≤ most_clients
  pub clients_apart : IsDistinct same_name (client_names items)
  pub templates : length (templates_in items) ≤ most_templates
  pub templates_apart : IsDistinct same_name (map (λ t. t.name) (templates_in items))
  pub each : AreItems [] [] items
  pub load : text_load (templates_in items) (names_of items) items ≤ most_requests
  pub weight : text_weight (templates_in items) (names_of items) items ≤ most_steps

-- well formed are the scripts that have the grammar's form and no fault
abbrev pub FaultlessAreWellFormed : Type 0
FaultlessAreWellFormed = (items : List Item) → (HasForm items × (fault_of items ≡ None)) ↔ IsWellFormed items

-- a script is accepted where it is well formed, and there alone, unless memory runs out
abbrev pub AcceptsWellFormed : List Item → Result ProgramShape CheckFault → Type 0
AcceptsWellFormed items (Ok p) = IsWellFormed items
AcceptsWellFormed items (Err fault) = fault ≢ f.Memory → IsWellFormed items → ⊥
