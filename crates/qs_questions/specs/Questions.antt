-- What the values of a condition stand for in a program, and whether a condition holds where an order has come to its
-- end.
use Rattle.std.specs.Prelude.{◌≡◌, ◌==◌, ◌&&◌, ℕ, Bool, true, false, if◌then◌else◌, List, [], ◌∷◌, ◌++◌, length, slice_index_or, Option, None, Some, is_some, unwrap_or, ℤ, pos}
use Rattle.std.specs.List.{AllByRecursion, find, position}
use Rattle.qs_objects.specs.audit.Act.{State, act}
use Rattle.qs_objects.specs.audit.Operations.{arity, is_query, operations_of, word}
use Rattle.qs_objects.specs.declared.Op.{Op}
use Rattle.qs_objects.specs.declared.Op.TheVariants.{TakeFirst}
use Rattle.qs_objects.specs.declared.object.Kind.{Kind}
use Rattle.qs_program.specs.audit.Numbering.{Name, found_at, is_among, same_name}
use Rattle.qs_program.specs.audit.Program.{ClientShape, ProgramShape, client_at, object_at}
use Rattle.qs_program.specs.declared.program.Declared.{Declared}
use Rattle.qs_meaning.specs.Configurations.{OrderOutcome}
use Rattle.qs_conditions.specs.Conditions.{Tree, compare, negation, both, either, holds}
use Rattle.qs_conditions.specs.declared.condition.Value.{Value}
use Rattle.qs_conditions.specs.declared.condition.Value.TheVariants.{Number, Variable, Reply}
use Rattle.qs_conditions.specs.declared.condition.Summand.{Summand}
use Rattle.qs_conditions.specs.declared.condition.Step.{Step}
use Rattle.qs_conditions.specs.declared.condition.Step.TheVariants as s
use Rattle.qs_questions.specs.declared.named.ClientVariable.{ClientVariable}
use Rattle.qs_questions.specs.declared.named.ObjectQuery.{ObjectQuery}

-- the number of the client that has a name, and of the object
abbrev pub client_of : ProgramShape → Name → Option ℕ
client_of p n = position (λ (c : ClientShape). same_name n c.name) p.clients

abbrev pub object_of : ProgramShape → Name → Option ℕ
object_of p n = position (λ (o : Declared). same_name n o.name) p.objects

-- a query that changes nothing: each but the one that takes a value out
abbrev pub only_asks : Op → Bool
only_asks TakeFirst = false
only_asks op = is_query op

-- the operation of a kind that has that word, if it only asks and takes so many numbers
abbrev pub query_of : Kind → Name → ℕ → Option Op
query_of kind text count =
    find (λ op. same_name text (word op) && (only_asks op && (arity op == count))) (operations_of kind)

-- the variable of a client, by their names: one that the client's text names
abbrev pub variable_in : ProgramShape → Option ℕ → Name → Option ClientVariable
variable_in p None name = None
variable_in p (Some c) name =
    let names : List Name = (client_at p c).variables in
    if is_among names name then Some (record { client = c; number = found_at names name }) else None

abbrev pub variable_of : ProgramShape → Name → Name → Option ClientVariable
variable_of p client name = variable_in p (client_of p client) name

-- the query of an object, by their names
abbrev pub query_to : ℕ → Option Op → Option ObjectQuery
query_to h None = None
query_to h (Some op) = Some (record { object = h; op = op })

abbrev pub asked_in : ProgramShape → Option ℕ → Name → ℕ → Option ObjectQuery
asked_in p None text count = None
asked_in p (Some h) text count = query_to h (query_of (object_at p h).kind text count)

abbrev pub asked_of : ProgramShape → Name → Name → ℕ → Option ObjectQuery
asked_of p object text count = asked_in p (object_of p object) text count

-- whether the program has the value: a number always; a variable that its client's text names; and the reply of an
-- object to a query of its kind that only asks, with as many numbers as the query takes
abbrev pub has_value : ProgramShape → Value → Bool
has_value p (Number n) = true
has_value p (Variable client name) = is_some (variable_of p client name)
has_value p (Reply object text args) = is_some (asked_of p object text (length args))

-- what a client's variable is, and what an object replies; 0 where a name stands for nothing
abbrev pub variable_value : OrderOutcome → Option ClientVariable → ℤ
variable_value o None = pos 0
variable_value o (Some v) = slice_index_or (o.locals v.client) v.number (pos 0)

abbrev pub reply_to : State → Op → List ℤ → ℤ
reply_to state op args = unwrap_or (act state op args).1 (pos 0)

abbrev pub reply_value : OrderOutcome → Option ObjectQuery → List ℤ → ℤ
reply_value o None args = pos 0
reply_value o (Some q) args = reply_to (o.states q.object) q.op args

abbrev pub value_at : ProgramShape → OrderOutcome → Value → ℤ
value_at p o (Number n) = n
value_at p o (Variable client name) = variable_value o (variable_of p client name)
value_at p o (Reply object text args) = reply_value o (asked_of p object text (length args)) args

-- whether a condition holds at an outcome
abbrev pub holds_at : ProgramShape → Tree → OrderOutcome → Bool
holds_at p c o = holds (value_at p o) c

-- the program has each value of the condition
abbrev pub HasValues : ProgramShape → List Summand → Type 0
HasValues p xs = AllByRecursion (λ (x : Summand). has_value p x.value ≡ true) xs

abbrev pub HasAllValues : ProgramShape → Tree → Type 0
HasAllValues p (compare left relation right) = HasValues p left × HasValues p right
HasAllValues p (negation c) = HasAllValues p c
HasAllValues p (both c d) = HasAllValues p c × HasAllValues p d
HasAllValues p (either c d) = HasAllValues p c × HasAllValues p d

-- the summands of the steps, in their order
abbrev pub summands_of : List Step → List Summand
summands_of [] = []
summands_of (s.Compare left relation right ∷ steps) = left ++ (right ++ summands_of steps)
summands_of (s.Not ∷ steps) = summands_of steps
summands_of (s.And ∷ steps) = summands_of steps
summands_of (s.Or ∷ steps) = summands_of steps

-- the place of the first of these whose value the program does not have
abbrev pub first_unknown_of : ProgramShape → List Summand → Option ℕ
first_unknown_of p [] = None
first_unknown_of p (x ∷ xs) = if has_value p x.value then first_unknown_of p xs else Some x.place

abbrev pub first_unknown_in : ProgramShape → List Step → Option ℕ
first_unknown_in p steps = first_unknown_of p (summands_of steps)
