-- What became of each request that an object ran, by the replay of its journal.
use Rattle.std.specs.Prelude.{ℕ, ◌==◌, Bool, false, not, if◌then◌else◌, nat_eq, nat_lt, List, [], ◌∷◌, ◌++◌, length, count_by, Option, slice_get}
use Rattle.std.specs.Prelude.{ℤ}
use Rattle.std.specs.Ordering.{int_eq}
use Rattle.qs_objects.specs.audit.Act.{Content, State, account, buffer, grid, below, outside}
use Rattle.qs_objects.specs.audit.Journals.{after}
use Rattle.qs_objects.specs.audit.Parts.{same}
use Rattle.qs_objects.specs.declared.Op.{Op}
use Rattle.qs_objects.specs.declared.Op.TheVariants.{TakeFirst, First, GetCell, RowSum}
use Rattle.qs_objects.specs.declared.Request.{Request}
use Rattle.qs_objects.specs.declared.held.Entry.{Entry}
use Rattle.qs_objects.specs.declared.held.Event.{Event}
use Rattle.qs_objects.specs.declared.held.Ticket.{Ticket}
use Rattle.qs_program.specs.audit.Program.{ProgramShape}
use Rattle.qs_meaning.specs.audit.Serial.{declared_states}
use Rattle.qs_played.specs.audit.Isolation.{journal_of, ticket_at, trace_of}
use Rattle.qs_played.specs.audit.Played.{Played}
use Rattle.qs_text.specs.declared.fates.fate.Fate.{Fate}
use Rattle.qs_text.specs.declared.fates.fate.Fate.TheVariants.{Done, Refused, NoValue}

-- a command that can't be done is counted by its object
abbrev pub is_refused : State → Request → Bool
is_refused s r = not (int_eq (after s r).refused s.refused)

-- a buffer of n values has no first
abbrev pub lacks_first : ℕ → Op → List ℤ → Bool
lacks_first n TakeFirst [] = nat_eq n 0
lacks_first n First [] = nat_eq n 0
lacks_first n _ _ = false

-- a grid of n rows with k cells each has no such cell or row
abbrev pub lacks_cells : ℕ → ℕ → Op → List ℤ → Bool
lacks_cells n k GetCell (r ∷ c ∷ []) = outside n k r c
lacks_cells n k RowSum (r ∷ []) = not (below r n)
lacks_cells n k _ _ = false

-- a query that asks for what is not there: the first of no values, or a cell or a row outside of a grid
abbrev pub has_no_value : Content → Op → List ℤ → Bool
has_no_value (account b) op args = false
has_no_value (buffer k xs) op args = lacks_first (length xs) op args
has_no_value (grid k rows) op args = lacks_cells (length rows) k op args

-- what becomes of a request that an object runs in a state
abbrev pub fate_of : State → Request → Fate
fate_of s r = if is_refused s r then Refused else if has_no_value s.content r.op r.args then NoValue else Done

-- what became of the requests of a journal, from a state on
abbrev pub fates_from : State → List Entry → List Fate
fates_from s [] = []
fates_from s (e ∷ es) = fate_of s e.request ∷ fates_from (after s e.request) es

-- what became of the requests that an object of a run has run
abbrev pub fates_of : ProgramShape → Played → ℕ → List Fate
fates_of p run h = fates_from (declared_states p h) (journal_of run h)

-- of a ticket's requests in a journal
abbrev pub fates_for : Ticket → State → List Entry → List Fate
fates_for t s [] = []
fates_for t s (e ∷ es) =
    (if same t e.ticket then fate_of s e.request ∷ [] else []) ++ fates_for t (after s e.request) es

-- how many of some events are requests on an object
abbrev pub requests_on : ℕ → List Event → ℕ
requests_on h es = count_by (λ (e : Event). e.request.object == h) es

-- of a ticket's requests on an object of the program; an object past the last has run nothing
abbrev pub fates_on : ProgramShape → Played → (place object : ℕ) → List Fate
fates_on p run i h =
    if nat_lt h (length p.objects) then fates_for (ticket_at run i) (declared_states p h) (journal_of run h) else []

-- What became of a request that stands in the trace of the i-th ticket after some others: if it is the trace's k-th
-- request on its object, then what became of the k-th of that ticket in the object's journal. None where the object has
-- not run it yet.
abbrev pub fate_after : ProgramShape → Played → (place : ℕ) → List Event → Event → Option Fate
fate_after p run i before e = slice_get (fates_on p run i e.request.object) (requests_on e.request.object before)

-- of each request of a trace, where these events of it stand before
abbrev pub fates_along : ProgramShape → Played → (place : ℕ) → (before rest : List Event) → List (Option Fate)
fates_along p run i before [] = []
fates_along p run i before (e ∷ es) = fate_after p run i before e ∷ fates_along p run i (before ++ e ∷ []) es

-- of each request of the trace of the i-th ticket
abbrev pub trace_fates : ProgramShape → Played → ℕ → List (Option Fate)
trace_fates p run i = fates_along p run i [] (trace_of run i)
