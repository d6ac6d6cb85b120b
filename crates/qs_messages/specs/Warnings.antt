-- What is warned of in a program.
use Rattle.std.specs.Prelude.{ℕ, Bool, not, ◌==◌, ◌&&◌, ◌||◌, if◌then◌else◌, List, [], ◌∷◌, ◌++◌, length, flat_map, sum_by, Option, Some, None, slice_index_or}
use Rattle.std.specs.List.{list_any, range_with_len}
use Rattle.qs_program.specs.audit.Program.{BlockShape, ClientShape, ProgramShape, block_at, blocks_of, client_at, own_block}
use Rattle.qs_program.specs.audit.Sound.{is_in}
use Rattle.qs_program.specs.audit.Statements.{Statements}
use Rattle.qs_messages.specs.declared.warned.doings.Doing.{Doing}
use Rattle.qs_messages.specs.declared.warned.doings.Doing.TheVariants.{Assigns, Asks, Reads, Calls}
use Rattle.qs_messages.specs.declared.warned.certainties.Certainty.{Certainty}
use Rattle.qs_messages.specs.declared.warned.certainties.Certainty.TheVariants.{Refused, Zero}
use Rattle.qs_messages.specs.declared.warned.warning.Warning.{Warning}
use Rattle.qs_messages.specs.declared.warned.warning.Warning.TheVariants.{Empty, Unreserved, NeverSet, NeverRead, Unused, AlwaysRefused, AlwaysZero}
use Rattle.qs_messages.specs.Doings.{does}
use Rattle.qs_messages.specs.Certainties.{certainties_of}

-- the numbers below n
abbrev pub below : ℕ → List ℕ
below n = range_with_len 0 n

-- one of a client's blocks does this
abbrev pub some_block_does : ProgramShape → ℕ → Doing → Bool
some_block_does p c d = list_any (λ (b : BlockShape). does d b.body) (client_at p c).blocks

abbrev pub client_reserves : ℕ → ClientShape → Bool
client_reserves h c = list_any (λ (b : BlockShape). is_in b.reserved h) c.blocks

-- a block of some client reserves the object
abbrev pub is_reserved : ProgramShape → ℕ → Bool
is_reserved p h = list_any (client_reserves h) p.clients

abbrev pub if_so : Bool → Warning → List Warning
if_so is_so w = if is_so then w ∷ [] else []

-- there is no client, or no client has a block
abbrev pub is_empty : ProgramShape → Bool
is_empty p = sum_by (λ (c : ClientShape). length c.blocks) p.clients == 0

-- no block reserves it
abbrev pub object_warnings : ProgramShape → ℕ → List Warning
object_warnings p h = if_so (not (is_reserved p h)) (Unreserved h)

-- it is read and never set, so it is 0; or it is assigned and never read: a reply that is not read is shown all the
-- same
abbrev pub variable_warnings : ProgramShape → ℕ → ℕ → List Warning
variable_warnings p c v =
    if_so (some_block_does p c (Reads v) && not (some_block_does p c (Assigns v)
    || some_block_does p c (Asks v))) (NeverSet c v)
    ++ if_so (some_block_does p c (Assigns v) && not (some_block_does p c (Reads v))) (NeverRead c v)

-- the block makes no request on it
abbrev pub name_warnings : ℕ → ℕ → Statements → ℕ → List Warning
name_warnings c k body name = if_so (not (does (Calls name) body)) (Unused c k name)

-- the names of a block's list
abbrev pub list_warnings : ℕ → ℕ → BlockShape → List Warning
list_warnings c k b = flat_map (name_warnings c k b.body) b.reserved

-- those of a client's block, as the client's own text has it
abbrev pub block_warnings : ProgramShape → ℕ → ℕ → List Warning
block_warnings p c k = list_warnings c k (own_block p c k)

-- a request of which it is known what becomes of it, by its number in its block
abbrev pub certainty_warnings : ℕ → ℕ → ℕ → Option Certainty → List Warning
certainty_warnings c k request (Some Refused) = AlwaysRefused c k request ∷ []
certainty_warnings c k request (Some Zero) = AlwaysZero c k request ∷ []
certainty_warnings c k request None = []

abbrev pub certainty_warnings_at : ℕ → ℕ → List (Option Certainty) → ℕ → List Warning
certainty_warnings_at c k certainties request = certainty_warnings c k request (slice_index_or certainties request None)

-- of requests, by what becomes of each
abbrev pub each_certainty_warnings : ℕ → ℕ → List (Option Certainty) → List Warning
each_certainty_warnings c k certainties = flat_map (certainty_warnings_at c k certainties) (below (length certainties))

-- the requests of a client's block, in the order of the text, each formal standing for its object
abbrev pub request_warnings : ProgramShape → ℕ → ℕ → List Warning
request_warnings p c k = each_certainty_warnings c k (certainties_of p (block_at p c k).body)

abbrev pub client_warnings : ProgramShape → ℕ → List Warning
client_warnings p c =
    flat_map (variable_warnings p c) (below (length (client_at p c).variables))
    ++ flat_map (block_warnings p c) (below (blocks_of p c))
    ++ flat_map (request_warnings p c) (below (blocks_of p c))

-- all that is warned of: that nothing is done; each object; and client by client its variables, its blocks' lists and
-- its blocks' requests
abbrev pub warnings_of : ProgramShape → List Warning
warnings_of p =
    if_so (is_empty p) Empty
    ++ flat_map (object_warnings p) (below (length p.objects))
    ++ flat_map (client_warnings p) (below (length p.clients))
