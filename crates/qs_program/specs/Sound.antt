-- Beside what the headline reaches (`audit/Sound.antt`): what else contracts and proofs use.
use Rattle.std.specs.Prelude.{◌≡◌, ◌≤◌, ◌<◌, ℕ, ◌+◌, max, Bool, true, false, ◌==◌, List, length, map, Option, Some, None, IsSome, slice_index_or}
use Rattle.std.specs.List.{AllByRecursion, IsDistinct}
use Rattle.qs_objects.specs.audit.Objects.{starts}
use Rattle.qs_objects.specs.audit.Operations.{is_query, arity}
use Rattle.qs_objects.specs.Operations.{fits}
use Rattle.qs_script.specs.audit.tree.Limits.{most_levels}
use Rattle.qs_program.specs.audit.Limits.{most_blocks, most_clients, most_objects, most_requests, most_steps, most_turns, most_variables}
use Rattle.qs_program.specs.Limits.{most_formals}
use Rattle.qs_program.specs.declared.code.Atom.{Atom}
use Rattle.qs_program.specs.declared.code.Atom.TheVariants.{Variable, Number}
use Rattle.qs_program.specs.declared.code.Expr.{Expr}
use Rattle.qs_program.specs.declared.code.Expr.TheVariants.{Plain, Binary}
use Rattle.qs_program.specs.declared.code.Test.{Test}
use Rattle.qs_program.specs.declared.code.Call.{Call}
use Rattle.qs_program.specs.declared.program.Declared.{Declared}
use Rattle.qs_program.specs.audit.Binding.{bound_block}
use Rattle.qs_program.specs.audit.Kinds.{same_kind}
use Rattle.qs_program.specs.audit.Numbering.{same_name}
use Rattle.qs_program.specs.audit.Statements.{Statements, end, command, query, assign, choose, again, leave}
use Rattle.qs_program.specs.audit.Program.{BlockShape, ClientShape, ProgramShape, StartShape, no_object, whole_load, whole_weight}
use Rattle.qs_program.specs.audit.Sound.{is_in}

-- a variable of the client
abbrev pub IsSoundAtom : Atom → Type 0
IsSoundAtom (Variable x) = x < most_variables
IsSoundAtom (Number n) = Unit {0}

abbrev pub IsSoundExpr : Expr → Type 0
IsSoundExpr (Plain a) = IsSoundAtom a
IsSoundExpr (Binary a op b) = IsSoundAtom a × IsSoundAtom b

abbrev pub IsSoundTest : Test → Type 0
IsSoundTest t = IsSoundAtom t.left × IsSoundAtom t.right

-- a request of the block's list, whose object has the operation, with its number of arguments
pub record IsSoundCall (objects : List Declared) (reserved : List ℕ) (asks : Bool) (c : Call) : Type 0 where
  pub reserves : is_in reserved c.object ≡ true
  pub kind : fits c.op (slice_index_or objects c.object no_object).kind ≡ true
  pub query : is_query c.op ≡ asks
  pub arity : length c.args ≡ arity c.op
  pub args : AllByRecursion IsSoundAtom c.args

module _ (objects : List Declared) (reserved : List ℕ) where
  abbrev pub IsSoundBody : Statements → Type 0
  IsSoundBody end = Unit {0}
  IsSoundBody (command c rest) = IsSoundCall objects reserved false c × IsSoundBody rest
  IsSoundBody (query x c rest) = (x < most_variables) × IsSoundCall objects reserved true c × IsSoundBody rest
  IsSoundBody (assign x e rest) = (x < most_variables) × IsSoundExpr e × IsSoundBody rest
  IsSoundBody (choose t has_else first other rest) =
      IsSoundTest t × IsSoundBody first × IsSoundBody other × IsSoundBody rest
  IsSoundBody (again n body rest) = (n ≤ most_turns) × IsSoundBody body × IsSoundBody rest
  IsSoundBody (leave rest) = IsSoundBody rest

pub record IsSoundBlock (objects : List Declared) (b : BlockShape) : Type 0 where
  pub reserved : AllByRecursion (λ h. h < length objects) b.reserved
  pub distinct : IsDistinct ◌==◌ b.reserved
  pub body : IsSoundBody objects b.reserved b.body

-- an object for each formal, of its kind; blocks that are sound by the formals' kinds, and these are the client's
-- blocks once each formal stands for its object
pub record IsSoundStart (objects : List Declared) (blocks : List BlockShape) (s : StartShape) : Type 0 where
  pub few : length s.formals ≤ most_formals
  pub each : length s.binding ≡ length s.formals
  pub inside : AllByRecursion (λ h. h < length objects) s.binding
  pub kinds : (i : ℕ) → i < length s.formals
      → same_kind (slice_index_or s.formals i no_object).kind
      (slice_index_or objects (slice_index_or s.binding i 0) no_object).kind ≡ true
  pub texts : AllByRecursion (IsSoundBlock s.formals) s.blocks
  pub bound : blocks ≡ map (bound_block s.binding) s.blocks

abbrev pub IsStartSound : List Declared → List BlockShape → Option StartShape → Type 0
IsStartSound objects blocks None = Unit {0}
IsStartSound objects blocks (Some s) = IsSoundStart objects blocks s

pub record IsSoundClient (objects : List Declared) (c : ClientShape) : Type 0 where
  pub variables : length c.variables ≤ most_variables
  pub blocks : length c.blocks ≤ most_blocks
  pub each : AllByRecursion (IsSoundBlock objects) c.blocks
  pub start : IsStartSound objects c.blocks c.start

-- each variable has a number below a count
module _ (count : ℕ) where
  abbrev pub IsAtomBelow : Atom → Type 0
  IsAtomBelow (Variable x) = x < count
  IsAtomBelow (Number n) = Unit {0}

  abbrev pub IsExprBelow : Expr → Type 0
  IsExprBelow (Plain a) = IsAtomBelow a
  IsExprBelow (Binary a op b) = IsAtomBelow a × IsAtomBelow b

  abbrev pub AreVariablesBelow : Statements → Type 0
  AreVariablesBelow end = Unit {0}
  AreVariablesBelow (command c rest) = AllByRecursion IsAtomBelow c.args × AreVariablesBelow rest
  AreVariablesBelow (query x c rest) = (x < count) × AllByRecursion IsAtomBelow c.args × AreVariablesBelow rest
  AreVariablesBelow (assign x e rest) = (x < count) × IsExprBelow e × AreVariablesBelow rest
  AreVariablesBelow (choose t has_else first other rest) =
      IsAtomBelow t.left × IsAtomBelow t.right × AreVariablesBelow first × AreVariablesBelow other
      × AreVariablesBelow rest
  AreVariablesBelow (again n body rest) = AreVariablesBelow body × AreVariablesBelow rest
  AreVariablesBelow (leave rest) = AreVariablesBelow rest

-- each `leave` stands inside a repeat: of this list, or around it
abbrev pub AreLeavesInside : (inside : Bool) → Statements → Type 0
AreLeavesInside inside end = Unit {0}
AreLeavesInside inside (command c rest) = AreLeavesInside inside rest
AreLeavesInside inside (query x c rest) = AreLeavesInside inside rest
AreLeavesInside inside (assign x e rest) = AreLeavesInside inside rest
AreLeavesInside inside (choose t has_else first other rest) =
    AreLeavesInside inside first × AreLeavesInside inside other × AreLeavesInside inside rest
AreLeavesInside inside (again n body rest) = AreLeavesInside true body × AreLeavesInside inside rest
AreLeavesInside inside (leave rest) = (inside ≡ true) × AreLeavesInside inside rest

-- how many statements stand one inside another at most
abbrev pub levels_of : Statements → ℕ
levels_of end = 0
levels_of (command c rest) = max 1 (levels_of rest)
levels_of (query x c rest) = max 1 (levels_of rest)
levels_of (assign x e rest) = max 1 (levels_of rest)
levels_of (choose t has_else first other rest) = max (1 + max (levels_of first) (levels_of other)) (levels_of rest)
levels_of (again n body rest) = max (1 + levels_of body) (levels_of rest)
levels_of (leave rest) = max 1 (levels_of rest)

-- a block of a client with so many variables: its list is not empty, its variables are the client's, a `leave` stands
-- inside a repeat alone, and a statement inside at most eight others
pub record IsFormedBlock (variables : ℕ) (b : BlockShape) : Type 0 where
  pub some : 0 < length b.reserved
  pub below : AreVariablesBelow variables b.body
  pub leaves : AreLeavesInside false b.body
  pub levels : levels_of b.body ≤ most_levels

-- a client's blocks are formed, and no two of its variables have one name
pub record IsFormedClient (c : ClientShape) : Type 0 where
  pub variables : IsDistinct same_name c.variables
  pub each : AllByRecursion (IsFormedBlock (length c.variables)) c.blocks

-- no two objects have one name, and no two clients
pub record AreNamesApart (p : ProgramShape) : Type 0 where
  pub objects : IsDistinct same_name (map (λ o. o.name) p.objects)
  pub clients : IsDistinct same_name (map (λ c. c.name) p.clients)

-- names apart, and clients formed. It does not unfold by itself, so that a search for a proof that has a sound program
-- in sight does not go through all of it
unfoldable pub IsFormedProgram : ProgramShape → Type 0
IsFormedProgram p = AreNamesApart p × AllByRecursion IsFormedClient p.clients

pub record IsSound (p : ProgramShape) : Type 0 where
  pub objects : length p.objects ≤ most_objects
  pub clients : length p.clients ≤ most_clients
  pub kinds : AllByRecursion (λ (o : Declared). IsSome (starts o.kind)) p.objects
  pub each : AllByRecursion (IsSoundClient p.objects) p.clients
  pub load : whole_load p ≤ most_requests
  pub weight : whole_weight p ≤ most_steps
  pub form : IsFormedProgram p
