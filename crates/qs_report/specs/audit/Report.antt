-- The report of a run, and the counts of a program, as bytes.
use Rattle.std.specs.Prelude.{ℕ, List, [], ◌∷◌, ◌++◌, codes, decimal, length, flat_map, slice_index_or, Bool, false, if◌then◌else◌, Option, Some, None}
use Rattle.qs_objects.specs.audit.Act.{State}
use Rattle.qs_objects.specs.declared.held.Ticket.{Ticket}
use Rattle.qs_objects.specs.declared.held.Event.{Event}
use Rattle.qs_program.specs.audit.Program.{ProgramShape, object_at, client_at}
use Rattle.qs_played.specs.audit.Played.{Played}
use Rattle.qs_text.specs.audit.fates.Fates.{trace_fates}
use Rattle.qs_text.specs.declared.fates.fate.Fate.{Fate}
use Rattle.qs_text.specs.declared.fates.fate.Fate.TheVariants.{Done, Refused, NoValue}
use Rattle.qs_sync_counts.specs.declared.sync_counts.SyncCount.{SyncCount}
use Rattle.qs_text.specs.audit.Texts.{count_line, texts_up_to}
use Rattle.qs_text.specs.audit.Words.{ended_text, first_ticket, no_state, reply_text, request_text, state_text}

abbrev pub event_line : ProgramShape → Event → List ℕ
event_line p e = request_text p e.request ++ reply_text e.reply ++ codes "\n"

-- what a line says of what became of its request: only that a command was refused, or that a query found nothing
abbrev pub fate_text : Option Fate → List ℕ
fate_text None = []
fate_text (Some Done) = []
fate_text (Some Refused) = codes " refused"
fate_text (Some NoValue) = codes " none"

-- a line that says it
abbrev pub marked_line : ProgramShape → Event → Option Fate → List ℕ
marked_line p e fate = request_text p e.request ++ reply_text e.reply ++ fate_text fate ++ codes "\n"

-- such lines, where there is for each event what became of its request
abbrev pub marked_lines : ProgramShape → List Event → List (Option Fate) → List ℕ
marked_lines p [] fates = []
marked_lines p (e ∷ es) [] = []
marked_lines p (e ∷ es) (fate ∷ fates) = marked_line p e fate ++ marked_lines p es fates

-- a ticket, and whether its block has ended
abbrev pub ticket_line : ProgramShape → Ticket → Bool → List ℕ
ticket_line p t ended =
    codes "ticket " ++ (client_at p t.client).name ++ codes " " ++ decimal t.index ++ codes " " ++ ended_text ended
    ++ codes "\n"

-- the lines of the trace at a place of the order, which say what became of its requests where that is asked for
abbrev pub trace_text : (refusals : Bool) → ProgramShape → Played → ℕ → List ℕ
trace_text refusals p run i =
    if refusals
    then marked_lines p (slice_index_or run.traces i []) (trace_fates p run i)
    else flat_map (event_line p) (slice_index_or run.traces i [])

-- the ticket at a place of the order, with the lines of its trace
abbrev pub ticket_text : (refusals : Bool) → ProgramShape → Played → ℕ → List ℕ
ticket_text refusals p run i =
    ticket_line p (slice_index_or run.order i first_ticket) (slice_index_or run.ended i false)
    ++ trace_text refusals p run i

-- how many synchronisations a block has sent for an object
abbrev pub sync_line : ProgramShape → SyncCount → List ℕ
sync_line p s = codes "sync " ++ count_line (object_at p s.object).name s.count

-- those of the ticket at a place, a line for each object of its block's list
abbrev pub sync_lines : ProgramShape → Played → ℕ → List ℕ
sync_lines p run i = flat_map (sync_line p) (slice_index_or run.sync_counts i [])

-- a ticket, with its synchronisations last where they are asked for
abbrev pub shown_ticket : (refusals counts : Bool) → ProgramShape → Played → ℕ → List ℕ
shown_ticket refusals counts p run i =
    if counts then ticket_text refusals p run i ++ sync_lines p run i else ticket_text refusals p run i

abbrev pub order_text : (refusals counts : Bool) → ProgramShape → Played → List ℕ
order_text refusals counts p run =
    count_line (codes "order") (length run.order) ++ texts_up_to (length run.order) (shown_ticket refusals counts p run)

-- the line of an object's state
abbrev pub state_line : List ℕ → State → List ℕ
state_line name s = state_text name s ++ codes "\n"

-- the object of a number
abbrev pub object_text : ProgramShape → Played → ℕ → List ℕ
object_text p run h = state_line (object_at p h).name (slice_index_or run.states h no_state)

abbrev pub states_text : ProgramShape → Played → List ℕ
states_text p run = codes "states\n" ++ texts_up_to (length run.states) (object_text p run)

abbrev pub finished_text : Bool → List ℕ
finished_text finished = if finished then codes "finished\n" else codes "unfinished\n"

-- the order with its traces, what became of their requests and the counts where they are asked for; the objects'
-- states, the number of syncs, and whether the run is finished
abbrev pub styled_run_text : (refusals counts : Bool) → ProgramShape → Played → List ℕ
styled_run_text refusals counts p run =
    order_text refusals counts p run ++ states_text p run ++ count_line (codes "syncs") run.syncs
    ++ finished_text run.finished
