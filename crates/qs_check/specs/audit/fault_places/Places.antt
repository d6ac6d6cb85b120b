-- The places of a script where something may be wrong, in text order, and what is wrong at each.
use Rattle.std.specs.Prelude.{ℕ, suc, ◌+◌, Bool, true, false, ◌||◌, nat_lt, nat_eq, if◌then◌else◌, List, [], ◌∷◌, ◌++◌, length, map, slice_index_or, Option, Some, None, Result, Ok, Err, pos}
use Rattle.qs_objects.specs.declared.Op.{Op}
use Rattle.qs_objects.specs.declared.object.Kind.{Kind}
use Rattle.qs_objects.specs.declared.object.Kind.TheVariants as k
use Rattle.qs_objects.specs.audit.Operations.{arity}
use Rattle.qs_script.specs.declared.tree.tree.Atom.{Atom}
use Rattle.qs_script.specs.declared.tree.tree.Atom.TheVariants.{Variable, Number}
use Rattle.qs_script.specs.declared.tree.tree.Expr.{Expr}
use Rattle.qs_script.specs.declared.tree.tree.Expr.TheVariants.{Plain, Binary}
use Rattle.qs_script.specs.declared.tree.tree.Test.{Test}
use Rattle.qs_script.specs.declared.tree.tree.Call.{Call}
use Rattle.qs_script.specs.declared.tree.tree.Block.{Block}
use Rattle.qs_script.specs.declared.tree.tree.KindText.{KindText}
use Rattle.qs_script.specs.declared.tree.tree.KindText.TheVariants.{Account, Buffer, Grid}
use Rattle.qs_script.specs.declared.tree.tree.KindWord.{KindWord}
use Rattle.qs_script.specs.declared.tree.tree.KindWord.TheVariants as word
use Rattle.qs_script.specs.declared.tree.tree.Formal.{Formal}
use Rattle.qs_script.specs.declared.tree.tree.TemplateItem.{TemplateItem}
use Rattle.qs_script.specs.declared.tree.tree.StartedItem.{StartedItem}
use Rattle.qs_script.specs.declared.tree.tree.Item.{Item}
use Rattle.qs_script.specs.declared.tree.tree.Item.TheVariants.{Object, Client, Template, Started}
use Rattle.qs_script.specs.audit.tree.Tree.{Stmts, end, command, query, assign, choose, choose_else, again, leave}
use Rattle.qs_objects.specs.audit.Limits.{greatest_balance, most_lines, most_values}
use Rattle.qs_program.specs.audit.Limits.{most_blocks, most_clients, most_objects, most_turns, most_variables}
use Rattle.qs_check.specs.declared.fault_places.fault.CheckFault.{CheckFault}
use Rattle.qs_check.specs.declared.fault_places.fault.CheckFault.TheVariants as f
use Rattle.qs_program.specs.audit.Kinds.{same_kind}
use Rattle.qs_program.specs.audit.Numbering.{Name, is_among, found_at}
use Rattle.qs_check.specs.audit.fault_places.Operators.{op_of}

-- of a program
abbrev pub most_templates : ℕ
most_templates = 8

-- what is known at a place: the objects declared so far with their kinds, the clients so far, the templates so far with
-- their formals' kinds, how many blocks and which variables the current client has so far, and the current block's list
-- so far
pub record Scope : Type 0 where
  pub objects : List Name
  pub kinds : List Kind
  pub clients : List Name
  pub templates : List Name
  pub formals : List (List Kind)
  pub blocks : ℕ
  pub variables : List Name
  pub reserved : List Name

pub data TextPlace : Type 0 where
  -- an object's name
  object : (name : Name) → Kind → TextPlace
  -- a number with a range: of a kind, or of a repeat
  number : (low high : ℕ) → (n : ℕ) → TextPlace
  -- a client's name
  client : (name : Name) → TextPlace
  -- the beginning of a block
  separate : TextPlace
  -- a name of a block's list
  listed : (object : Name) → TextPlace
  -- a request's object, its operation, and the number of its arguments; a query asks, a command does not
  target : (object : Name) → TextPlace
  operation : (asks : Bool) → (object op : Name) → TextPlace
  arguments : (asks : Bool) → (object op : Name) → (count : ℕ) → TextPlace
  -- a variable, assigned or read
  variable : (name : Name) → TextPlace
  -- a leave, inside a repeat or not
  leaves : (inside : Bool) → TextPlace
  -- a template's name, with its formals' kinds
  template : (name : Name) → (formals : List Kind) → TextPlace
  -- a template's formals and blocks, which are walked by themselves, with their first fault
  text : (fault : Option CheckFault) → TextPlace
  -- the template's name after a client's, with the number of objects that are given
  starts : (template : Name) → (count : ℕ) → TextPlace
  -- an object that is given for the formal at a place
  given : (template : Name) → (place : ℕ) → (object : Name) → TextPlace

abbrev pub ScopeOrFault : Type 0
ScopeOrFault = Result Scope CheckFault

-- the operation that a declared object has under a word
abbrev pub op_at : List Name → List Kind → Bool → Name → Name → Option Op
op_at objects kinds asks o op = op_of asks (slice_index_or kinds (found_at objects o) (k.Account (pos 0))) op

abbrev pub is_known : Option Op → Bool
is_known None = false
is_known (Some op) = true

abbrev pub takes : Option Op → ℕ → Bool
takes None n = false
takes (Some op) n = nat_eq (arity op) n

-- what is known after each of the places that tell something
abbrev pub with_object : Scope → Name → Kind → Scope
with_object s n kind = record s { objects = s.objects ++ n ∷ []; kinds = s.kinds ++ kind ∷ [] }

abbrev pub with_client : Scope → Name → Scope
with_client s n = record s { clients = s.clients ++ n ∷ []; blocks = 0; variables = []; reserved = [] }

abbrev pub with_template : Scope → Name → List Kind → Scope
with_template s n formals = record s { templates = s.templates ++ n ∷ []; formals = s.formals ++ formals ∷ [] }

abbrev pub scope_of_block : Scope → Scope
scope_of_block s = record s { blocks = s.blocks + 1; reserved = [] }

abbrev pub with_listed : Scope → Name → Scope
with_listed s o = record s { reserved = s.reserved ++ o ∷ [] }

abbrev pub with_variable : Scope → Name → Scope
with_variable s x = record s { variables = s.variables ++ x ∷ [] }

abbrev pub kind_in : List Kind → ℕ → Kind
kind_in kinds i = slice_index_or kinds i (k.Account (pos 0))

-- the kinds of the formals of a template
abbrev pub formals_at : List Name → List (List Kind) → Name → List Kind
formals_at templates formals n = slice_index_or formals (found_at templates n) []

-- whether a declared object is of the kind of a template's formal
abbrev pub is_given : Scope → Name → ℕ → Name → Bool
is_given s n i o = same_kind (kind_in (formals_at s.templates s.formals n) i) (kind_in s.kinds (found_at s.objects o))

abbrev pub unless_fault : Option CheckFault → Scope → ScopeOrFault
unless_fault None s = Ok s
unless_fault (Some fault) s = Err fault

-- the faults of each place in their order, and else what is known after it: at most 8 objects and 8 clients,
-- 64 blocks and 16 variables of a client
abbrev pub pass_place : Scope → TextPlace → ScopeOrFault
pass_place s (object n kind) =
    if is_among s.objects n then Err f.Twice
    else (if nat_lt (length s.objects) most_objects then Ok (with_object s n kind) else Err f.Limit)
pass_place s (number low high n) = if nat_lt n low || nat_lt high n then Err f.Range else Ok s
pass_place s (client n) =
    if is_among s.clients n then Err f.Twice
    else (if nat_lt (length s.clients) most_clients then Ok (with_client s n) else Err f.Limit)
pass_place s separate = if nat_lt s.blocks most_blocks then Ok (scope_of_block s) else Err f.Limit
pass_place s (listed o) =
    if is_among s.objects o then (if is_among s.reserved o then Err f.ReservedTwice else Ok (with_listed s o))
    else Err f.UnknownObject
pass_place s (target o) =
    if is_among s.objects o then (if is_among s.reserved o then Ok s else Err f.NotReserved)
    else Err f.UnknownObject
pass_place s (operation asks o op) = if is_known (op_at s.objects s.kinds asks o op) then Ok s else Err f.UnknownOp
pass_place s (arguments asks o op n) = if takes (op_at s.objects s.kinds asks o op) n then Ok s else Err f.Arity
pass_place s (variable x) =
    if is_among s.variables x then Ok s
    else (if nat_lt (length s.variables) most_variables then Ok (with_variable s x) else Err f.Limit)
pass_place s (leaves inside) = if inside then Ok s else Err f.LeaveOutside
pass_place s (template n formals) =
    if is_among s.templates n then Err f.Twice
    else (if nat_lt (length s.templates) most_templates then Ok (with_template s n formals) else Err f.Limit)
pass_place s (text fault) = unless_fault fault s
pass_place s (starts n count) =
    if is_among s.templates n then (if nat_eq (length (formals_at s.templates s.formals n)) count then Ok s else Err
    f.Count)
    else Err f.UnknownTemplate
pass_place s (given n i o) =
    if is_among s.objects o then (if is_given s n i o then Ok s else Err f.OtherKind)
    else Err f.UnknownObject

abbrev pub then_at : ScopeOrFault → (Scope → ScopeOrFault) → ScopeOrFault
then_at (Ok s) next = next s
then_at (Err e) next = Err e

-- the first fault, or what is known at the end
abbrev pub scope_or_fault : Scope → List TextPlace → ScopeOrFault
scope_or_fault s [] = Ok s
scope_or_fault s (p ∷ ps) = then_at (pass_place s p) (λ t. scope_or_fault t ps)

abbrev pub atom_places : Atom → List TextPlace
atom_places (Variable x) = variable x ∷ []
atom_places (Number z) = []

-- the places of each element of a list, one after another
abbrev pub at_each : {A : Type 0} → (A → List TextPlace) → List A → List TextPlace
at_each f [] = []
at_each f (x ∷ xs) = f x ++ at_each f xs

abbrev pub atoms_places : List Atom → List TextPlace
atoms_places = at_each atom_places

abbrev pub expr_places : Expr → List TextPlace
expr_places (Plain a) = atom_places a
expr_places (Binary a op b) = atom_places a ++ atom_places b

abbrev pub test_places : Test → List TextPlace
test_places t = atom_places t.left ++ atom_places t.right

-- a request's operation and the number of its arguments: a query asks, a command does not
abbrev pub operation_places : Bool → Name → Name → ℕ → List TextPlace
operation_places asks o op n = operation asks o op ∷ arguments asks o op n ∷ []

-- a request's object, its operation and the number of its arguments
abbrev pub request_places : Bool → Name → Name → ℕ → List TextPlace
request_places asks o op n = target o ∷ operation_places asks o op n

abbrev pub call_places : Bool → Call → List TextPlace
call_places asks c = request_places asks c.object c.op (length c.args) ++ atoms_places c.args

-- the places of statements, inside a repeat or not
abbrev pub places : Bool → Stmts → List TextPlace
places inside end = []
places inside (command c rest) = call_places false c ++ places inside rest
places inside (query x c rest) = variable x ∷ (call_places true c ++ places inside rest)
places inside (assign x e rest) = variable x ∷ (expr_places e ++ places inside rest)
places inside (choose t first rest) = test_places t ++ (places inside first ++ places inside rest)
places inside (choose_else t first other rest) =
    test_places t ++ (places inside first ++ (places inside other ++ places inside rest))
places inside (again n body rest) = number 0 most_turns n ∷ (places true body ++ places inside rest)
places inside (leave rest) = leaves inside ∷ places inside rest

abbrev pub listed_places : List Name → List TextPlace
listed_places = at_each (λ o. listed o ∷ [])

abbrev pub block_places : Block → List TextPlace
block_places b = separate ∷ (listed_places b.reserved ++ places false b.body)

abbrev pub blocks_places : List Block → List TextPlace
blocks_places = at_each block_places

-- a kind with its numbers
abbrev pub kind_of : KindText → Kind
kind_of (Account n) = k.Account (pos n)
kind_of (Buffer n) = k.Buffer (pos n)
kind_of (Grid r c) = k.Grid (pos r) (pos c)

abbrev pub kind_places : KindText → List TextPlace
kind_places (Account n) = number 0 greatest_balance n ∷ []
kind_places (Buffer n) = number 1 most_values n ∷ []
kind_places (Grid r c) = number 1 most_lines r ∷ number 1 most_lines c ∷ []

-- a formal's kind; its numbers say nothing
abbrev pub formal_kind : KindWord → Kind
formal_kind word.Account = k.Account (pos 0)
formal_kind word.Buffer = k.Buffer (pos 1)
formal_kind word.Grid = k.Grid (pos 1) (pos 1)

abbrev pub formal_kinds : List Formal → List Kind
formal_kinds fs = map (λ f. formal_kind f.kind) fs

-- formals stand for objects in their template
abbrev pub formals_places : List Formal → List TextPlace
formals_places = at_each (λ f. object f.name (formal_kind f.kind) ∷ [])

abbrev pub text_places : TemplateItem → List TextPlace
text_places t = formals_places t.formals ++ blocks_places t.blocks

-- nothing is known at the start
abbrev pub start : Scope
start =
    record {
      objects = [];
      kinds = [];
      clients = [];
      templates = [];
      formals = [];
      blocks = 0;
      variables = [];
      reserved = [];
    }

abbrev pub fault_in : ScopeOrFault → Option CheckFault
fault_in (Ok s) = None
fault_in (Err fault) = Some fault

-- the first fault of a template's formals and blocks, of which nothing outside is known
abbrev pub fault_of_text : TemplateItem → Option CheckFault
fault_of_text t = fault_in (scope_or_fault start (text_places t))

-- the objects that are given for the formals from a place on
abbrev pub given_places : Name → ℕ → List Name → List TextPlace
given_places n i [] = []
given_places n i (o ∷ os) = given n i o ∷ given_places n (suc i) os

abbrev pub started_places : StartedItem → List TextPlace
started_places c = client c.name ∷ starts c.template (length c.objects) ∷ given_places c.template 0 c.objects

abbrev pub item_places : Item → List TextPlace
item_places (Object o) = object o.name (kind_of o.kind) ∷ kind_places o.kind
item_places (Client c) = client c.name ∷ blocks_places c.blocks
item_places (Template t) = template t.name (formal_kinds t.formals) ∷ text (fault_of_text t) ∷ []
item_places (Started c) = started_places c

-- the places of a whole script
abbrev pub script_places : List Item → List TextPlace
script_places = at_each item_places
