-- Requests of which it is known what becomes of them, whatever their object holds and whatever the variables are.
use Rattle.std.specs.Prelude.{◌≡◌, Bool, true, false, not, ◌||◌, if◌then◌else◌, List, [], ◌∷◌, ◌++◌, length, map, Option, Some, None, IsSome}
use Rattle.std.specs.Prelude.{ℤ, pos, int_lt}
use Rattle.qs_objects.specs.audit.Act.{State, act, below, greatest_balance, refusing, replying, size_of}
use Rattle.qs_objects.specs.audit.Objects.{kind_of, starts}
use Rattle.qs_objects.specs.Objects.{IsInRange}
use Rattle.qs_objects.specs.audit.Operations.{arity}
use Rattle.qs_objects.specs.Operations.{fits}
use Rattle.qs_objects.specs.declared.Op.{Op}
use Rattle.qs_objects.specs.declared.Op.TheVariants.{Deposit, Withdraw, SetCell, AddCell, GetCell, RowSum}
use Rattle.qs_objects.specs.declared.object.Kind.{Kind}
use Rattle.qs_objects.specs.declared.object.Kind.TheVariants.{Account, Buffer, Grid}
use Rattle.qs_program.specs.audit.Program.{ProgramShape, object_at}
use Rattle.qs_program.specs.audit.Statements.{Statements, end, command, query, assign, choose, again, leave}
use Rattle.qs_program.specs.audit.Values.{Locals, atom_value}
use Rattle.qs_program.specs.declared.code.Atom.{Atom}
use Rattle.qs_program.specs.declared.code.Atom.TheVariants.{Variable, Number}
use Rattle.qs_program.specs.declared.code.Call.{Call}
use Rattle.qs_messages.specs.declared.warned.certainties.Certainty.{Certainty}
use Rattle.qs_messages.specs.declared.warned.certainties.Certainty.TheVariants.{Refused, Zero}

-- a state that an object may come to which was declared of this kind: an account's balance changes, and nothing else of
-- a kind does
abbrev pub IsOfDeclared : Kind → Kind → Type 0
IsOfDeclared (Account b) now = (balance : ℤ) × (now ≡ Account balance)
IsOfDeclared (Buffer k) now = now ≡ Buffer k
IsOfDeclared (Grid n k) now = now ≡ Grid n k

pub record IsStateOf (declared : Kind) (s : State) : Type 0 where
  pub kind : IsOfDeclared declared (kind_of s.content)
  pub range : IsInRange s.content

-- the object refuses the request, whatever it holds and whatever the variables are
abbrev pub IsAlwaysRefused : Kind → Op → List Atom → Type 0
IsAlwaysRefused kind op args =
    (s : State) (l : Locals) → IsStateOf kind s → act s op (map (atom_value l) args) ≡ refusing s

-- it answers 0, and nothing changes
abbrev pub IsAlwaysZero : Kind → Op → List Atom → Type 0
IsAlwaysZero kind op args =
    (s : State) (l : Locals) → IsStateOf kind s → act s op (map (atom_value l) args) ≡ replying s (pos 0)

-- an argument is written as a number of which this holds
abbrev pub is_number : (ℤ → Bool) → Atom → Bool
is_number holds (Number n) = holds n
is_number holds (Variable x) = false

-- below 0, or above the greatest balance
abbrev pub is_no_amount : ℤ → Bool
is_no_amount n = int_lt n (pos 0) || int_lt greatest_balance n

-- not from 0 up to a number of rows, or of columns
abbrev pub is_past : ℤ → ℤ → Bool
is_past lines n = not (below n (size_of lines))

abbrev pub when : Bool → Certainty → Option Certainty
when is_so f = if is_so then Some f else None

-- what becomes of a request to an account, where its numbers alone say so
abbrev pub account_certainty : Op → List Atom → Option Certainty
account_certainty Deposit (n ∷ []) = when (is_number is_no_amount n) Refused
account_certainty Withdraw (n ∷ []) = when (is_number is_no_amount n) Refused
account_certainty _ _ = None

-- and to a grid of so many rows and columns
abbrev pub grid_certainty : (rows columns : ℤ) → Op → List Atom → Option Certainty
grid_certainty rows columns SetCell (r ∷ c ∷ v ∷ []) =
    when (is_number (is_past rows) r || is_number (is_past columns) c) Refused
grid_certainty rows columns AddCell (r ∷ c ∷ v ∷ []) =
    when (is_number (is_past rows) r || is_number (is_past columns) c) Refused
grid_certainty rows columns GetCell (r ∷ c ∷ []) =
    when (is_number (is_past rows) r || is_number (is_past columns) c) Zero
grid_certainty rows columns RowSum (r ∷ []) = when (is_number (is_past rows) r) Zero
grid_certainty rows columns _ _ = None

-- what becomes of a request to an object that was declared of this kind
abbrev pub certainty_of : Kind → Op → List Atom → Option Certainty
certainty_of (Account b) op args = account_certainty op args
certainty_of (Buffer k) op args = None
certainty_of (Grid rows columns) op args = grid_certainty rows columns op args

-- a certainty is so in each state of the kind
pub record CertaintiesAreSo : Type 0 where
  pub refused : (kind : Kind) (op : Op) (args : List Atom) → certainty_of kind op args ≡ Some Refused
      → IsAlwaysRefused kind op args
  pub zero : (kind : Kind) (op : Op) (args : List Atom) → certainty_of kind op args ≡ Some Zero
      → IsAlwaysZero kind op args

-- a request that fits an object which can be declared so
pub record IsRequestTo (kind : Kind) (op : Op) (args : List Atom) : Type 0 where
  pub declared : IsSome (starts kind)
  pub fitting : fits op kind ≡ true
  pub long : length args ≡ arity op

-- and a request that fares so in each state of the kind has that certainty, whatever its numbers and variables are
pub record CertaintiesAreAll : Type 0 where
  pub refused : (kind : Kind) (op : Op) (args : List Atom) → IsRequestTo kind op args
      → IsAlwaysRefused kind op args → certainty_of kind op args ≡ Some Refused
  pub zero : (kind : Kind) (op : Op) (args : List Atom) → IsRequestTo kind op args
      → IsAlwaysZero kind op args → certainty_of kind op args ≡ Some Zero

-- the requests of statements, inner ones too, in the order of the text
abbrev pub calls_of : Statements → List Call
calls_of end = []
calls_of (command c rest) = c ∷ calls_of rest
calls_of (query x c rest) = c ∷ calls_of rest
calls_of (assign x e rest) = calls_of rest
calls_of (choose t has_else first other rest) = calls_of first ++ calls_of other ++ calls_of rest
calls_of (again n body rest) = calls_of body ++ calls_of rest
calls_of (leave rest) = calls_of rest

-- what becomes of a request whose object has its number in the program
abbrev pub call_certainty : ProgramShape → Call → Option Certainty
call_certainty p c = certainty_of (object_at p c.object).kind c.op c.args

-- and of each request of some statements
abbrev pub certainties_of : ProgramShape → Statements → List (Option Certainty)
certainties_of p body = map (call_certainty p) (calls_of body)
