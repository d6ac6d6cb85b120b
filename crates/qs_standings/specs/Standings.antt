-- Configurations as they are kept: in lists, with an order that leads there, and as one row of numbers.
use Rattle.std.specs.Prelude.{◌≡◌, ◌==◌, if◌then◌else◌, map, ℕ, List, [], ◌∷◌, ◌++◌, true, drop, length, replicate, slice_index_or, slice_set, ℤ, pos, flat_map, suc, take, swap}
use Rattle.qs_objects.specs.audit.Act.{State, Content, account, buffer, grid}
use Rattle.qs_objects.specs.audit.Rows.{join_rows}
use Rattle.qs_objects.specs.declared.held.Ticket.{Ticket}
use Rattle.qs_program.specs.audit.Limits.{most_clients}
use Rattle.qs_program.specs.audit.Program.{ProgramShape, block_at, client_at}
use Rattle.qs_program.specs.audit.Values.{Locals}
use Rattle.qs_meaning.specs.audit.Configurations.{Configuration, configuration_after, one_block_on}
use Rattle.qs_meaning.specs.Configurations.{HasBlockLeft}
use Rattle.qs_meaning.specs.Reduced.{IsReducedFrom, goes_on}
use Rattle.qs_meaning.specs.audit.Serial.{IsLegal, zeros}
use Rattle.qs_meaning.specs.audit.Solo.{BlockResult, solo}
use Rattle.qs_serial.specs.Alone.{states_in}

-- an order, how many blocks each client has begun along it, the clients' variables, and the objects
pub record StandingShape : Type 0 where
  pub order : List Ticket
  pub begun : List ℕ
  pub locals : List Locals
  pub states : List State

abbrev pub configuration_in : StandingShape → Configuration
configuration_in s = record {
  begun = λ c. slice_index_or s.begun c 0;
  locals = λ c. slice_index_or s.locals c zeros;
  states = states_in s.states;
}

-- an order that begins with a front, after which each next client is one of those who go on
pub record IsReducedAfter (p : ProgramShape) (front order : List Ticket) : Type 0 where
  pub rest : List Ticket
  pub whole : order ≡ front ++ rest
  pub reduced : IsReducedFrom p (configuration_after p front) rest

-- The lists have a place for each client and each object, the order is legal and reduced after a front, and it leads to
-- the configuration.
pub record IsStanding (p : ProgramShape) (front : List Ticket) (s : StandingShape) : Type 0 where
  pub begun : length s.begun ≡ length p.clients
  pub locals : length s.locals ≡ length p.clients
  pub states : length s.states ≡ length p.objects
  pub legal : IsLegal p s.order
  pub reduced : IsReducedAfter p front s.order
  pub stands : configuration_in s ≡ configuration_after p s.order

-- where no block was begun but those of the front
pub record IsFirst (p : ProgramShape) (front : List Ticket) (s : StandingShape) : Type 0 where
  pub standing : IsStanding p front s
  pub order : s.order ≡ front
  pub first : configuration_in s ≡ configuration_after p front

abbrev pub HasNext : ProgramShape → StandingShape → ℕ → Type 0
HasNext p s c = HasBlockLeft p (configuration_in s) c

-- no client has a block left
abbrev pub NoneNext : ProgramShape → StandingShape → Type 0
NoneNext p s = (c : ℕ) → HasNext p s c → ⊥

-- whether a client is one of those who go on
abbrev pub GoesOn : ProgramShape → StandingShape → ℕ → Type 0
GoesOn p s c = goes_on p (configuration_in s).begun c ≡ true

-- where the client's next block has run, by an order that is longer by its ticket
pub record IsOneOn (p : ProgramShape) (s : StandingShape) (c : ℕ) (n : StandingShape) : Type 0 where
  pub standing : IsStanding p n.order n
  pub order : n.order ≡ s.order ++ record { client = c; index = (configuration_in s).begun c } ∷ []
  pub next : configuration_in n ≡ one_block_on p c (configuration_in s)

-- the same of a client that goes on, after a front
pub record IsNext (p : ProgramShape) (front : List Ticket) (s : StandingShape) (c : ℕ)
    (n : StandingShape) : Type 0 where
  pub standing : IsStanding p front n
  pub order : n.order ≡ s.order ++ record { client = c; index = (configuration_in s).begun c } ∷ []
  pub next : configuration_in n ≡ one_block_on p c (configuration_in s)

-- what a client's next block leaves where it runs alone
abbrev pub next_result : ProgramShape → StandingShape → ℕ → BlockResult
next_result p s c =
    solo (block_at p c (slice_index_or s.begun c 0)).body (slice_index_or s.locals c zeros) (states_in s.states)

-- these variables and objects are what a client's next block leaves
pub record HasRun (p : ProgramShape) (s : StandingShape) (c : ℕ) (values : Locals) (left : List State) : Type 0 where
  pub locals : values ≡ (next_result p s c).locals
  pub states : states_in left ≡ (next_result p s c).states
  pub count : length left ≡ length s.states

-- with one more block of a client, which left these variables and objects
abbrev pub standing_with_block : StandingShape → ℕ → Locals → List State → StandingShape
standing_with_block s c values states = record {
  order = s.order ++ record { client = c; index = slice_index_or s.begun c 0 } ∷ [];
  begun = slice_set s.begun c (suc (slice_index_or s.begun c 0));
  locals = slice_set s.locals c values;
  states = states;
}

-- one of two numbers for the other
abbrev pub flipped : (one other : ℕ) → ℕ → ℕ
flipped one other n = if n == one then other else (if n == other then one else n)

abbrev pub flipped_ticket : (one other : ℕ) → Ticket → Ticket
flipped_ticket one other t = record { client = flipped one other t.client; index = t.index }

-- with two clients in each other's places
abbrev pub exchanged : (one other : ℕ) → StandingShape → StandingShape
exchanged one other s = record {
  order = map (flipped_ticket one other) s.order;
  begun = swap s.begun one other;
  locals = swap s.locals one other;
  states = s.states;
}

-- a list of numbers with its length before it
abbrev pub counted : List ℤ → List ℤ
counted xs = pos (length xs) ∷ xs

abbrev pub content_row : Content → List ℤ
content_row (account b) = pos 0 ∷ b ∷ []
content_row (buffer k xs) = pos 1 ∷ pos k ∷ counted xs
content_row (grid k rows) = pos 2 ∷ pos (length rows) ∷ pos k ∷ counted (join_rows rows)

abbrev pub state_row : State → List ℤ
state_row s = s.refused ∷ content_row s.content

-- of each client's variables those that its text names, from a client on
abbrev pub named_from : ProgramShape → ℕ → List Locals → List ℤ
named_from p c [] = []
named_from p c (l ∷ ls) = take (length (client_at p c).variables) l ++ named_from p (suc c) ls

-- how many blocks each client has begun, and other numbers
pub record RowShape : Type 0 where
  pub begun : List ℕ
  pub numbers : List ℤ

-- a count for each client that there may be: 0 where there is none
abbrev pub padded : List ℕ → List ℕ
padded begun = begun ++ drop (length begun) (replicate most_clients 0)

-- A configuration as a row, from which it can be read again: how many blocks each client has begun, and the variables
-- that the text names with the objects.
abbrev pub row_of : ProgramShape → StandingShape → RowShape
row_of p s = record { begun = padded s.begun; numbers = named_from p 0 s.locals ++ flat_map state_row s.states }
