-- How many synchronisations each mode sends: one object on a line for each block, and one for the sums.
use Rattle.std.specs.Prelude.{ℕ, ◌-◌, List, ◌++◌, codes, decimal, length, slice_index_or}
use Rattle.qs_objects.specs.declared.held.Ticket.{Ticket}
use Rattle.qs_program.specs.audit.Program.{ProgramShape, client_at, object_at}
use Rattle.qs_text.specs.audit.Texts.{texts_up_to}
use Rattle.qs_text.specs.audit.Words.{first_ticket}
use Rattle.qs_report.specs.SyncTable.{TableShape, counts_in, object_in, sums_of, width_at}
use Rattle.qs_report.specs.declared.sync_table.ModeCounts.{ModeCounts}
use Rattle.qs_json.specs.OutcomesJson.{next_client_json}
use Rattle.qs_json.specs.audit.Pieces.{array, array_up_to, field, first_field, quoted}

-- how many are sent in each mode
abbrev pub sent_json : ModeCounts → List ℕ
sent_json c =
    first_field (codes "none") (decimal c.none) ++ field (codes "dynamic") (decimal c.dynamic)
    ++ field (codes "static") (decimal c.fixed) ++ field (codes "both") (decimal c.both) ++ codes "}"

-- and how many fewer these are than without coalescing
abbrev pub saved_json : ModeCounts → List ℕ
saved_json c =
    first_field (codes "dynamic") (decimal (c.none - c.dynamic)) ++ field (codes "static") (decimal (c.none - c.fixed))
    ++ field (codes "both") (decimal (c.none - c.both)) ++ codes "}"

abbrev pub mode_counts_json : ModeCounts → List ℕ
mode_counts_json c = field (codes "sent") (sent_json c) ++ field (codes "saved") (saved_json c) ++ codes "}"

-- an object of a block's list, with the numbers for it
abbrev pub row_json : ProgramShape → TableShape → (i j : ℕ) → List ℕ
row_json p t i j =
    first_field (codes "object") (quoted (object_at p (object_in t i j)).name) ++ mode_counts_json (counts_in t i j)

-- a block
abbrev pub block_head_json : ProgramShape → Ticket → List ℕ
block_head_json p t =
    first_field (codes "client") (quoted (client_at p t.client).name) ++ field (codes "block") (decimal t.index)

-- with each object of its list
abbrev pub block_json : ProgramShape → TableShape → ℕ → List ℕ
block_json p t i =
    block_head_json p (slice_index_or t.order i first_ticket)
    ++ field (codes "objects") (array_up_to (width_at t i) (row_json p t i)) ++ codes "}\n"

-- the blocks of the order, then the order and the sums
abbrev pub syncs_json : ProgramShape → TableShape → List ℕ
syncs_json p t =
    texts_up_to (length t.order) (block_json p t) ++ first_field (codes "order") (array next_client_json t.order)
    ++ mode_counts_json (sums_of t) ++ codes "\n"
