-- What of a run goes where in its picture: a row for each object, a column for each ticket. Each journal is cut from
-- its beginning into stretches, one for each ticket of the order, with as many entries as the journal has of that
-- ticket. A stretch's entries are drawn in the order of the journal, each in the colour of its own ticket's client. So
-- where a block was not alone, two colours stand in one stretch.
use Rattle.std.specs.Prelude.{ℕ, zero, suc, ◌+◌, ◌-◌, ◌*◌, min, max, ◌==◌, List, [], ◌∷◌, map, length, slice_index_or, slice_range, None, Bool, false, if◌then◌else◌, nat_le}
use Rattle.std.specs.List.{count_by}
use Rattle.qs_meaning.specs.audit.Serial.{declared_states}
use Rattle.qs_objects.specs.audit.Act.{State}
use Rattle.qs_objects.specs.audit.Journals.{replay, without_tickets}
use Rattle.qs_objects.specs.audit.Parts.{same}
use Rattle.qs_objects.specs.audit.Operations.{is_query}
use Rattle.qs_objects.specs.declared.Op.TheVariants.{Balance}
use Rattle.qs_objects.specs.declared.held.Entry.{Entry}
use Rattle.qs_objects.specs.declared.held.Ticket.{Ticket}
use Rattle.qs_program.specs.audit.Program.{ProgramShape}
use Rattle.qs_program.specs.audit.Sound.{is_in}
use Rattle.qs_played.specs.audit.Played.{Played}
use Rattle.qs_text.specs.audit.fates.Fates.{fates_of}
use Rattle.qs_text.specs.declared.fates.fate.Fate.{Fate}
use Rattle.qs_sync_counts.specs.audit.SyncRows.{object_of}
use Rattle.qs_sync_counts.specs.declared.sync_counts.SyncCount.{SyncCount}
use Rattle.qs_text.specs.audit.Words.{first_ticket}

-- so many columns are drawn at most; a further one then says how much more there is
abbrev pub most_columns : ℕ
most_columns = 64

abbrev pub columns_of : Played → ℕ
columns_of run = min (length run.order) most_columns

-- with the column that says how much more there is
abbrev pub all_columns : Played → ℕ
all_columns run = min (length run.order) (most_columns + 1)

-- so many requests of a stretch are drawn at most, in a picture of few cells and of many; the others are counted
abbrev pub most_symbols_of_few : ℕ
most_symbols_of_few = 12

abbrev pub most_symbols_of_many : ℕ
most_symbols_of_many = 4

abbrev pub most_few_cells : ℕ
most_few_cells = 192

abbrev pub most_symbols : (columns rows : ℕ) → ℕ
most_symbols columns rows = if nat_le (columns * rows) most_few_cells then most_symbols_of_few else most_symbols_of_many

-- the ticket at a place of the order, whether its block has ended, and the objects that it reserves, in the order of
-- its list
abbrev pub ticket_at : Played → ℕ → Ticket
ticket_at run i = slice_index_or run.order i first_ticket

abbrev pub ended_at : Played → ℕ → Bool
ended_at run i = slice_index_or run.ended i false

abbrev pub syncs_at : Played → ℕ → List SyncCount
syncs_at run i = slice_index_or run.sync_counts i []

abbrev pub objects_at : Played → ℕ → List ℕ
objects_at run i = map object_of (syncs_at run i)

abbrev pub reserves : Played → ℕ → ℕ → Bool
reserves run i h = is_in (objects_at run i) h

-- how many synchronisations a block has sent for an object, by its counts
abbrev pub sent_for : ℕ → List SyncCount → ℕ
sent_for h [] = 0
sent_for h (x ∷ xs) = if x.object == h then x.count else sent_for h xs

abbrev pub no_entry : Entry
no_entry = record { ticket = first_ticket; request = record { object = 0; op = Balance; args = [] }; reply = None }

-- an object's journal, and how many entries it has of a ticket
abbrev pub journal_of : Played → ℕ → List Entry
journal_of run h = slice_index_or run.journals h []

abbrev pub entries_for : Ticket → List Entry → ℕ
entries_for t journal = count_by (λ (e : Entry). same t e.ticket) journal

-- where in a journal the stretch of a ticket begins; the stretch of the ticket before ends there
abbrev pub stretch_start : Played → ℕ → ℕ → ℕ
stretch_start run h zero = 0
stretch_start run h (suc i) =
    stretch_start run h i + min (entries_for (ticket_at run i) (journal_of run h))
    (length (journal_of run h) - stretch_start run h i)

abbrev pub stretch : Played → ℕ → ℕ → List Entry
stretch run h i = slice_range (journal_of run h) (stretch_start run h i) (stretch_start run h (suc i))

-- the state of an object where the stretch of a ticket begins: as declared, it has run the stretches before
abbrev pub state_at : ProgramShape → Played → ℕ → ℕ → State
state_at p run h zero = declared_states p h
state_at p run h (suc i) = replay (state_at p run h i) (without_tickets (stretch run h i))

-- what became of its requests
abbrev pub stretch_fates : ProgramShape → Played → ℕ → ℕ → List Fate
stretch_fates p run h i = slice_range (fates_of p run h) (stretch_start run h i) (stretch_start run h (suc i))

-- how many entries of a stretch are queries
abbrev pub queries_in : List Entry → ℕ
queries_in entries = count_by (λ (e : Entry). is_query e.request.op) entries

-- the greatest of the numbers of the places from 0 up to n
abbrev pub greatest_up_to : ℕ → (ℕ → ℕ) → ℕ
greatest_up_to zero number = 0
greatest_up_to (suc n) number = max (greatest_up_to n number) (number n)

-- the most requests that a block with a column has at an object, and at whichever object
abbrev pub longest_at : Played → ℕ → ℕ
longest_at run h = greatest_up_to (columns_of run) (λ i. entries_for (ticket_at run i) (journal_of run h))

abbrev pub longest : (objects : ℕ) → Played → ℕ
longest objects run = greatest_up_to objects (longest_at run)
