-- Which client, or which block, uses the most of a limit.
use Rattle.std.specs.Prelude.{ℕ, zero, suc, nat_lt, if◌then◌else◌, length}
use Rattle.qs_program.specs.audit.Program.{BlockShape, ClientShape, ProgramShape, block_at, blocks_of, client_at}
use Rattle.qs_messages.specs.declared.limit_use.greatest.OfBlock.{OfBlock}
use Rattle.qs_messages.specs.declared.limit_use.greatest.OfBlock.TheVariants.{Nesting, Turns}
use Rattle.qs_messages.specs.declared.limit_use.greatest.OfClient.{OfClient}
use Rattle.qs_messages.specs.declared.limit_use.greatest.OfClient.TheVariants.{Blocks, Variables}
use Rattle.qs_messages.specs.declared.limit_use.greatest.Use.{Use}
use Rattle.qs_messages.specs.Extents.{nesting_of, turns_of}

-- how much a client uses
abbrev pub of_client : OfClient → ClientShape → ℕ
of_client Blocks c = length c.blocks
of_client Variables c = length c.variables

-- how much a block uses
abbrev pub of_block : OfBlock → BlockShape → ℕ
of_block Nesting b = nesting_of b.body
of_block Turns b = turns_of b.body

abbrev pub client_use : OfClient → ProgramShape → ℕ → Use
client_use what p c = record { amount = of_client what (client_at p c); client = c; block = 0 }

abbrev pub block_use : OfBlock → ProgramShape → ℕ → ℕ → Use
block_use what p c k = record { amount = of_block what (block_at p c k); client = c; block = k }

-- nothing is used
abbrev pub nobody : Use
nobody = record { amount = 0; client = 0; block = 0 }

-- the greater of two, and of equal ones the first
abbrev pub greater : Use → Use → Use
greater a b = if nat_lt a.amount b.amount then b else a

-- from a first value on, with the numbers from 0 up to n one after another
abbrev pub up_to : {A : Type 0} → ℕ → (A → ℕ → A) → A → A
up_to zero with first = first
up_to (suc n) with first = with (up_to n with first) n

-- the greatest of a client's blocks, and of what there was before
abbrev pub most_in_client : OfBlock → ProgramShape → Use → ℕ → Use
most_in_client what p before c = up_to (blocks_of p c) (λ most k. greater most (block_use what p c k)) before

-- the greatest of all clients, the first of equal ones
abbrev pub most_of_clients : OfClient → ProgramShape → Use
most_of_clients what p = up_to (length p.clients) (λ most c. greater most (client_use what p c)) nobody

-- the greatest of all blocks, the first of equal ones
abbrev pub most_of_blocks : OfBlock → ProgramShape → Use
most_of_blocks what p = up_to (length p.clients) (most_in_client what p) nobody
