-- What texts of a program say of names, requests, blocks and objects.
use Rattle.std.specs.Prelude.{ℕ, ℤ, pos, List, [], ◌++◌, codes, Option, Some, None, Bool, if◌then◌else◌}
use Rattle.std.specs.Fmt.{signed_decimal}
use Rattle.std.specs.List.{join_by}
use Rattle.qs_objects.specs.audit.Act.{State, account}
use Rattle.qs_objects.specs.audit.Objects.{kind_of, values_of}
use Rattle.qs_objects.specs.audit.Operations.{word}
use Rattle.qs_objects.specs.declared.Request.{Request}
use Rattle.qs_objects.specs.declared.held.Ticket.{Ticket}
use Rattle.qs_objects.specs.declared.object.Kind.{Kind}
use Rattle.qs_objects.specs.declared.object.Kind.TheVariants as kinds
use Rattle.qs_program.specs.audit.Program.{ProgramShape, object_at}

abbrev pub args_text : List ℤ → List ℕ
args_text args = join_by signed_decimal (codes ",") args

-- a request on an object of the program; a number past its objects has no name
abbrev pub request_text : ProgramShape → Request → List ℕ
request_text p r = (object_at p r.object).name ++ codes "." ++ word r.op ++ codes "(" ++ args_text r.args ++ codes ")"

-- a query's reply; a command has none
abbrev pub reply_text : Option ℤ → List ℕ
reply_text None = []
reply_text (Some reply) = codes " = " ++ signed_decimal reply

abbrev pub ended_text : Bool → List ℕ
ended_text ended = if ended then codes "done" else codes "open"

abbrev pub first_ticket : Ticket
first_ticket = record { client = 0; index = 0 }

-- values between brackets
abbrev pub values_text : List ℤ → List ℕ
values_text values = codes "[" ++ join_by signed_decimal (codes " ") values ++ codes "]"

-- a kind with its numbers, and the values of an object that has some
abbrev pub content_text : Kind → List ℤ → List ℕ
content_text (kinds.Account balance) values = codes " account " ++ signed_decimal balance
content_text (kinds.Buffer capacity) values =
    codes " buffer " ++ signed_decimal capacity ++ codes " " ++ values_text values
content_text (kinds.Grid rows columns) values =
    codes " grid " ++ signed_decimal rows ++ codes " " ++ signed_decimal columns ++ codes " " ++ values_text values

-- an object with what it holds and how many commands it refused
abbrev pub state_text : List ℕ → State → List ℕ
state_text name s =
    name ++ content_text (kind_of s.content) (values_of s.content) ++ codes " refused " ++ signed_decimal s.refused

abbrev pub no_state : State
no_state = record { content = account (pos 0); refused = pos 0 }
