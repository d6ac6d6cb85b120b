-- How many synchronisations each mode sends, as bytes.
use Rattle.std.specs.Prelude.{ℕ, ◌-◌, List, ◌++◌, codes, decimal, length, slice_index_or}
use Rattle.qs_objects.specs.declared.held.Ticket.{Ticket}
use Rattle.qs_program.specs.audit.Program.{ProgramShape, client_at, object_at}
use Rattle.qs_text.specs.audit.Texts.{texts_up_to}
use Rattle.qs_text.specs.audit.Words.{first_ticket}
use Rattle.qs_report.specs.OutcomesText.{clients_text}
use Rattle.qs_report.specs.SyncTable.{TableShape, counts_in, object_in, sums_of, width_at}
use Rattle.qs_report.specs.declared.sync_table.ModeCounts.{ModeCounts}

-- a mode, how many it sends, and how many fewer these are than without coalescing
abbrev pub saving_text : (mode : List ℕ) → (none sent : ℕ) → List ℕ
saving_text mode none sent = mode ++ decimal sent ++ codes " saves " ++ decimal (none - sent)

-- the end of a line: how many are sent in each mode
abbrev pub mode_counts_text : ModeCounts → List ℕ
mode_counts_text c =
    codes " none " ++ decimal c.none ++ saving_text (codes " dynamic ") c.none c.dynamic
    ++ saving_text (codes " static ") c.none c.fixed ++ saving_text (codes " both ") c.none c.both ++ codes "\n"

-- an object of a block's list, with the numbers for it
abbrev pub row_line : ProgramShape → TableShape → (i j : ℕ) → List ℕ
row_line p t i j =
    codes "sync " ++ (object_at p (object_in t i j)).name ++ mode_counts_text (counts_in t i j)

-- a block
abbrev pub block_heading : ProgramShape → Ticket → List ℕ
block_heading p t = codes "block " ++ (client_at p t.client).name ++ codes " " ++ decimal t.index ++ codes "\n"

-- with a line for each object of its list
abbrev pub block_rows : ProgramShape → TableShape → ℕ → List ℕ
block_rows p t i =
    block_heading p (slice_index_or t.order i first_ticket) ++ texts_up_to (width_at t i) (row_line p t i)

-- the order, its blocks, and the sums
abbrev pub syncs_text : ProgramShape → TableShape → List ℕ
syncs_text p t =
    codes "order " ++ clients_text t.order ++ codes "\n" ++ texts_up_to (length t.order) (block_rows p t)
    ++ codes "syncs" ++ mode_counts_text (sums_of t)
