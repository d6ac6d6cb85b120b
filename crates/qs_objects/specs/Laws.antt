-- What holds of every object, whatever it holds.
use Rattle.std.specs.Prelude.{◌≡◌, ◌≢◌, ◌⊎◌, true, false, List, length, IsSome, Some, None, ℤ}
use Rattle.qs_objects.specs.audit.Act.{State, Content, account, buffer, grid, act, ignoring}
use Rattle.qs_objects.specs.audit.Objects.{kind_of, starts}
use Rattle.qs_objects.specs.Objects.{IsInRange}
use Rattle.qs_objects.specs.audit.Operations.{is_query, arity}
use Rattle.qs_objects.specs.Operations.{fits}
use Rattle.qs_objects.specs.audit.Journals.{HeldState, run_one}
use Rattle.qs_objects.specs.Journals.{IsFaithful}
use Rattle.qs_objects.specs.declared.Op.{Op}
use Rattle.qs_objects.specs.declared.object.Kind.{Kind}
use Rattle.qs_objects.specs.declared.held.Ticket.{Ticket}
use Rattle.qs_objects.specs.declared.Request.{Request}

-- no object ever answers it
abbrev pub IsCommand : Op → Type 0
IsCommand op = (s : State) (args : List ℤ) → (act s op args).1 ≡ None

abbrev pub CommandsNeverAnswer : Type 0
CommandsNeverAnswer = (op : Op) → is_query op ≡ false → IsCommand op

-- a query of the object's kind, with its number of arguments, has a reply
abbrev pub QueriesAnswer : Type 0
QueriesAnswer =
    (s : State) (op : Op) (args : List ℤ)
    → is_query op ≡ true → fits op (kind_of s.content) ≡ true → length args ≡ arity op
    → IsSome (act s op args).1

-- an operation of another kind, or with another number of arguments, does nothing
abbrev pub MisfitsDoNothing : Type 0
MisfitsDoNothing =
    (s : State) (op : Op) (args : List ℤ)
    → (fits op (kind_of s.content) ≡ false) ⊎ (length args ≢ arity op)
    → act s op args ≡ ignoring s

-- of one kind and size; balances, values and cells may differ
abbrev pub SameShape : Content → Content → Type 0
SameShape (account b) (account c) = Unit {0}
SameShape (buffer k xs) (buffer l ys) = k ≡ l
SameShape (grid k rows) (grid l others) = (k ≡ l) × (length rows ≡ length others)
SameShape _ _ = ⊥

abbrev pub ShapesStay : Type 0
ShapesStay = (s : State) (op : Op) (args : List ℤ) → SameShape s.content (act s op args).0.content

-- objects begin in their range
abbrev pub RangesBegin : Type 0
RangesBegin = (kind : Kind) (s : State) → starts kind ≡ Some s → IsInRange s.content

abbrev pub RangesStay : Type 0
RangesStay =
    (s : State) (op : Op) (args : List ℤ)
    → IsInRange s.content → IsInRange (act s op args).0.content

-- what a journal tells of its object stays true as the object serves requests
abbrev pub JournalsStayHonest : Type 0
JournalsStayHonest =
    (start : State) (h : HeldState) (ticket : Ticket) (request : Request)
    → IsFaithful start h → IsFaithful start (run_one h ticket request).0
