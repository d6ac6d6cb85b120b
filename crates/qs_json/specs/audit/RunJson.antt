-- A run, and the counts of a program, as one object on one line.
use Rattle.std.specs.Prelude.{ℕ, ℤ, List, [], ◌++◌, codes, decimal, length, Option, Some, None, slice_index_or, Bool, false, if◌then◌else◌}
use Rattle.std.specs.Fmt.{signed_decimal}
use Rattle.qs_objects.specs.audit.Act.{State}
use Rattle.qs_objects.specs.audit.Objects.{kind_of, values_of}
use Rattle.qs_objects.specs.declared.Op.TheVariants.{Balance}
use Rattle.qs_objects.specs.declared.held.Ticket.{Ticket}
use Rattle.qs_objects.specs.declared.held.Event.{Event}
use Rattle.qs_objects.specs.declared.object.Kind.{Kind}
use Rattle.qs_objects.specs.declared.object.Kind.TheVariants as kinds
use Rattle.qs_program.specs.audit.Program.{ProgramShape, object_at, client_at}
use Rattle.qs_played.specs.audit.Played.{Played}
use Rattle.qs_text.specs.audit.fates.Fates.{trace_fates}
use Rattle.qs_text.specs.declared.fates.fate.Fate.{Fate}
use Rattle.qs_text.specs.declared.fates.fate.Fate.TheVariants.{Done, Refused, NoValue}
use Rattle.qs_sync_counts.specs.declared.sync_counts.SyncCount.{SyncCount}
use Rattle.qs_text.specs.audit.Words.{first_ticket, no_state}
use Rattle.qs_objects.specs.audit.Operations.{word}
use Rattle.qs_json.specs.audit.Pieces.{array, array_up_to, field, first_field, quoted, truth}
use Rattle.qs_json.specs.audit.Replay.{variables_in}
use Rattle.qs_json.specs.audit.Variables.{client_with}

-- a query's reply; a command has none
abbrev pub reply_json : Option ℤ → List ℕ
reply_json None = codes "null"
reply_json (Some reply) = signed_decimal reply

-- whether a request was refused; null where its object has not run it yet
abbrev pub refused_json : Option Fate → List ℕ
refused_json None = codes "null"
refused_json (Some Done) = codes "false"
refused_json (Some Refused) = codes "true"
refused_json (Some NoValue) = codes "false"

-- whether a query asked for what is not there
abbrev pub none_json : Option Fate → List ℕ
none_json None = codes "false"
none_json (Some Done) = codes "false"
none_json (Some Refused) = codes "false"
none_json (Some NoValue) = codes "true"

-- what became of a request
abbrev pub fate_json : Option Fate → List ℕ
fate_json fate = field (codes "refused") (refused_json fate) ++ field (codes "none") (none_json fate)

-- a request on an object of the program, with what became of it; a number past the objects has no name
abbrev pub event_json : ProgramShape → Event → Option Fate → List ℕ
event_json p e fate =
    first_field (codes "object") (quoted (object_at p e.request.object).name)
    ++ field (codes "operation") (quoted (word e.request.op))
    ++ field (codes "arguments") (array signed_decimal e.request.args)
    ++ field (codes "reply") (reply_json e.reply) ++ fate_json fate ++ codes "}"

-- past the end of a trace
abbrev pub no_event : Event
no_event = record { request = record { object = 0; op = Balance; args = [] }; reply = None }

-- the request at a place of a trace, with what became of it
abbrev pub request_json : ProgramShape → List Event → List (Option Fate) → ℕ → List ℕ
request_json p trace fates k = event_json p (slice_index_or trace k no_event) (slice_index_or fates k None)

-- the requests of a trace
abbrev pub trace_json : ProgramShape → List Event → List (Option Fate) → List ℕ
trace_json p trace fates = array_up_to (length trace) (request_json p trace fates)

-- how many synchronisations a block has sent for an object
abbrev pub sync_json : ProgramShape → SyncCount → List ℕ
sync_json p s =
    first_field (codes "object") (quoted (object_at p s.object).name) ++ field (codes "count") (decimal s.count)
    ++ codes "}"

-- those of the ticket at a place, one for each object of its block's list, where they are asked for
abbrev pub syncs_json : (counts : Bool) → ProgramShape → Played → ℕ → List ℕ
syncs_json counts p run i =
    if counts then field (codes "sync_counts") (array (sync_json p) (slice_index_or run.sync_counts i [])) else []

-- the first fields of a ticket: whose it is, and whether its block has ended
abbrev pub block_json : ProgramShape → Ticket → Bool → List ℕ
block_json p t ended =
    first_field (codes "client") (quoted (client_at p t.client).name) ++ field (codes "block") (decimal t.index)
    ++ field (codes "done") (truth ended)

-- the ticket at a place of the order, with its trace
abbrev pub ticket_json : (counts : Bool) → ProgramShape → Played → ℕ → List ℕ
ticket_json counts p run i =
    block_json p (slice_index_or run.order i first_ticket) (slice_index_or run.ended i false)
    ++ field (codes "trace") (trace_json p (slice_index_or run.traces i []) (trace_fates p run i))
    ++ syncs_json counts p run i ++ codes "}"

abbrev pub kind_json : List ℕ → List ℕ
kind_json kind = field (codes "kind") (quoted kind)

abbrev pub values_json : List ℤ → List ℕ
values_json values = field (codes "values") (array signed_decimal values)

-- a kind with its numbers, and the values of an object that has some
abbrev pub content_json : Kind → List ℤ → List ℕ
content_json (kinds.Account balance) values =
    kind_json (codes "account") ++ field (codes "balance") (signed_decimal balance)
content_json (kinds.Buffer capacity) values =
    kind_json (codes "buffer") ++ field (codes "capacity") (signed_decimal capacity) ++ values_json values
content_json (kinds.Grid rows columns) values =
    kind_json (codes "grid") ++ field (codes "rows") (signed_decimal rows)
    ++ field (codes "columns") (signed_decimal columns) ++ values_json values

-- an object with its name
abbrev pub state_json : List ℕ → State → List ℕ
state_json name s =
    first_field (codes "object") (quoted name) ++ content_json (kind_of s.content) (values_of s.content)
    ++ field (codes "refused") (signed_decimal s.refused) ++ codes "}"

-- the object of a number
abbrev pub object_json : ProgramShape → Played → ℕ → List ℕ
object_json p run h = state_json (object_at p h).name (slice_index_or run.states h no_state)

-- the tickets in their order, each with its trace, and with its counts where they are asked for; the objects' states,
-- the clients' variables, the number of syncs, and whether the run is finished
abbrev pub run_json : (counts : Bool) → ProgramShape → Played → List ℕ
run_json counts p run =
    first_field (codes "order") (array_up_to (length run.order) (ticket_json counts p run))
    ++ field (codes "states") (array_up_to (length run.states) (object_json p run))
    ++ field (codes "clients") (array_up_to (length p.clients) (client_with p (variables_in p run)))
    ++ field (codes "syncs") (decimal run.syncs)
    ++ field (codes "finished") (truth run.finished) ++ codes "}\n"
