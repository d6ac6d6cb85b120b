-- Blocks of equal text, also of two programs, and what is the same of their traces. Objects and variables are matched
-- by their names: the two programs may number them otherwise, and have others beside them.
use Rattle.std.specs.Prelude.{◌≡◌, ◌≢◌, ◌≤◌, ℕ, ℤ, pos, true, List, [], length, map, slice_index_or}
use Rattle.std.specs.List.{AllByRecursion, AllZip}
use Rattle.qs_objects.specs.audit.Operations.{is_query}
use Rattle.qs_objects.specs.audit.Parts.{IsFront, part}
use Rattle.qs_objects.specs.declared.Request.{Request}
use Rattle.qs_objects.specs.declared.held.Event.{Event}
use Rattle.qs_objects.specs.declared.held.Ticket.{Ticket}
use Rattle.qs_program.specs.declared.code.Atom.{Atom}
use Rattle.qs_program.specs.declared.code.Atom.TheVariants.{Variable, Number}
use Rattle.qs_program.specs.declared.code.Expr.{Expr}
use Rattle.qs_program.specs.declared.code.Expr.TheVariants.{Plain, Binary}
use Rattle.qs_program.specs.declared.code.Test.{Test}
use Rattle.qs_program.specs.declared.code.Call.{Call}
use Rattle.qs_program.specs.audit.Numbering.{Name}
use Rattle.qs_program.specs.audit.Program.{ProgramShape, object_at, client_at, text_of}
use Rattle.qs_program.specs.Sound.{IsSound}
use Rattle.qs_program.specs.audit.Statements.{Statements, end, command, query, assign, choose, again, leave}
use Rattle.qs_program.specs.audit.Values.{Locals}
use Rattle.qs_meaning.specs.audit.Following.{reserves}
use Rattle.qs_meaning.specs.Serial.{SerialBlock, serial}
use Rattle.qs_meaning.specs.audit.Solo.{States, solo}

-- the same statements but for their numbers: at each place the two objects, and the two variables, stand in these
-- relations
module _ (Objects Variables : ℕ → ℕ → Type 0) where
  abbrev pub SameAtom : Atom → Atom → Type 0
  SameAtom (Variable x) (Variable y) = Variables x y
  SameAtom (Number n) (Number m) = n ≡ m
  SameAtom _ _ = ⊥

  abbrev pub SameExpr : Expr → Expr → Type 0
  SameExpr (Plain a) (Plain b) = SameAtom a b
  SameExpr (Binary a op c) (Binary b other d) = SameAtom a b × (op ≡ other) × SameAtom c d
  SameExpr _ _ = ⊥

  abbrev pub SameTest : Test → Test → Type 0
  SameTest t u = SameAtom t.left u.left × (t.relation ≡ u.relation) × SameAtom t.right u.right

  abbrev pub SameCall : Call → Call → Type 0
  SameCall c d = Objects c.object d.object × (c.op ≡ d.op) × AllZip SameAtom c.args d.args

  abbrev pub SameStatements : Statements → Statements → Type 0
  SameStatements end end = Unit {0}
  SameStatements (command c rest) (command d later) = SameCall c d × SameStatements rest later
  SameStatements (query x c rest) (query y d later) = Variables x y × SameCall c d × SameStatements rest later
  SameStatements (assign x e rest) (assign y f later) = Variables x y × SameExpr e f × SameStatements rest later
  SameStatements (choose t has_else first other rest) (choose u has_too one two later) =
      SameTest t u × (has_else ≡ has_too) × SameStatements first one × SameStatements other two
      × SameStatements rest later
  SameStatements (again n body rest) (again m text later) =
      (n ≡ m) × SameStatements body text × SameStatements rest later
  SameStatements (leave rest) (leave later) = SameStatements rest later
  SameStatements _ _ = ⊥

abbrev pub object_name : ProgramShape → ℕ → Name
object_name p h = (object_at p h).name

-- the name of a variable of the ticket's client
abbrev pub variable_name : ProgramShape → Ticket → ℕ → Name
variable_name p t x = slice_index_or (client_at p t.client).variables x []

abbrev pub value_at : Locals → ℕ → ℤ
value_at l x = slice_index_or l x (pos 0)

-- each variable of the ticket's client has a value
abbrev pub HasValues : ProgramShape → Ticket → Locals → Type 0
HasValues p t l = length (client_at p t.client).variables ≤ length l

-- requests on objects of one name, with the same operation and the same arguments
pub record SameRequest (p q : ProgramShape) (r s : Request) : Type 0 where
  pub object : object_name p r.object ≡ object_name q s.object
  pub op : r.op ≡ s.op
  pub args : r.args ≡ s.args

-- and with the same reply
pub record SameEvent (p q : ProgramShape) (e d : Event) : Type 0 where
  pub request : SameRequest p q e.request d.request
  pub reply : e.reply ≡ d.reply

abbrev pub SameTrace : ProgramShape → ProgramShape → List Event → List Event → Type 0
SameTrace p q es ds = AllZip (SameEvent p q) es ds

-- a block of program p and one of program q, by their tickets
module _ (p q : ProgramShape) (t u : Ticket) where
  -- the blocks' texts are equal: the names in their lists, and their statements with the same name at each place
  pub record SameText : Type 0 where
    pub reserved : map (object_name p) (text_of p t).reserved ≡ map (object_name q) (text_of q u).reserved
    pub body :
        SameStatements (λ h g. object_name p h ≡ object_name q g) (λ x y. variable_name p t x ≡ variable_name q u y)
        (text_of p t).body (text_of q u).body

  -- wherever the texts name a variable, it has the same value in both
  abbrev pub SameValues : Locals → Locals → Type 0
  SameValues l k =
      SameStatements (λ h g. Unit {0}) (λ x y. value_at l x ≡ value_at k y) (text_of p t).body (text_of q u).body

  -- reserved by the one block and by the other, under one name
  pub record SameObject (h g : ℕ) : Type 0 where
    pub here : reserves p t h ≡ true
    pub there : reserves q u g ≡ true
    pub name : object_name p h ≡ object_name q g

  -- each object on which both traces have a request starts in the same state
  abbrev pub StartAlike : States → States → List Event → List Event → Type 0
  StartAlike st tu es ds = (h g : ℕ) → SameObject h g → part h es ≢ [] → part g ds ≢ [] → st h ≡ tu g

  -- each object on which these events have a query starts in the same state
  abbrev pub AskAlike : States → States → List Event → Type 0
  AskAlike st tu es =
      AllByRecursion (λ e. is_query e.request.op ≡ true → (g : ℕ) → SameObject e.request.object g
      → st e.request.object ≡ tu g) es

  -- Two traces are equal if each object on which both have a request starts in the same state; up to the first query on
  -- an object that starts in another state they are equal in any case, and wholly if there is no such query.
  pub record AlikeFrom (st tu : States) (es ds : List Event) : Type 0 where
    pub equal : StartAlike st tu es ds → SameTrace p q es ds
    pub front : (xs : List Event) → IsFront xs es → AskAlike st tu xs → (ys : List Event) × IsFront ys ds
        × SameTrace p q xs ys
    pub whole : AskAlike st tu es → SameTrace p q es ds

-- Two blocks of equal text, with equal entry values of the variables that it names, have traces that are alike, from
-- any states.
abbrev pub BlocksAlike : Type 0
BlocksAlike =
    (p q : ProgramShape) → IsSound p → IsSound q
    → (t u : Ticket) → SameText p q t u
    → (l k : Locals) → HasValues p t l → HasValues q u k → SameValues p q t u l k
    → (st tu : States) → AlikeFrom p q t u st tu (solo (text_of p t).body l st).trace
    (solo (text_of q u).body k tu).trace

-- So have a place of one serial run and a place of another, of the same program or of another one, from the states that
-- the places found.
abbrev pub PlacesAlike : Type 0
PlacesAlike =
    (p q : ProgramShape) → IsSound p → IsSound q
    → (order other : List Ticket)
    → AllByRecursion
    (λ (a : SerialBlock).
    AllByRecursion
    (λ (b : SerialBlock).
    SameText p q a.ticket b.ticket → SameValues p q a.ticket b.ticket a.entry b.entry
    → AlikeFrom p q a.ticket b.ticket a.starts b.starts a.trace b.trace)
    (serial q other).places)
    (serial p order).places

-- Equal values of all variables of one name are equal values of those that the text names.
abbrev pub ValuesByName : Type 0
ValuesByName =
    (p q : ProgramShape) (t u : Ticket) → SameText p q t u
    → (l k : Locals) → ((x y : ℕ) → variable_name p t x ≡ variable_name q u y → value_at l x ≡ value_at k y)
    → SameValues p q t u l k
