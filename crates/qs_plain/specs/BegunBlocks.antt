-- What the code reads off when a run is over.
use Rattle.std.specs.Prelude.{◌≡◌, ◌<◌, ℕ, List, [], ◌∷◌, length, slice_index_or}
use Rattle.qs_objects.specs.declared.held.Ticket.{Ticket}
use Rattle.qs_program.specs.audit.Program.{ProgramShape}
use Rattle.qs_played.specs.Played.{ClientRows}
use Rattle.qs_plain.specs.client.Clients.{AreRowsOf, ClientState, client_state_at, client_of_state}

-- each ticket names a block that was begun
abbrev pub AreBegun : List ClientState → List Ticket → Type 0
AreBegun cs order = (i : ℕ) (d : Ticket) → i < length order →
    ((slice_index_or order i d).client < length cs)
    × ((slice_index_or order i d).index < length (client_state_at cs (slice_index_or order i d).client).entries)

-- the clients of a program, each with its number
abbrev pub AreOwn : ProgramShape → List ClientState → Type 0
AreOwn p cs = (c : ℕ) → c < length cs → ((client_state_at cs c).program ≡ p) × ((client_state_at cs c).number ≡ c)

-- the rows of each client
abbrev pub AreRows : List ClientRows → List ClientState → Type 0
AreRows [] [] = Unit {0}
AreRows [] (d ∷ cs) = ⊥
AreRows (r ∷ rows) [] = ⊥
AreRows (r ∷ rows) (d ∷ cs) = AreRowsOf r (client_of_state d) × AreRows rows cs
