-- Configurations: where a program stands between blocks that run one after another, and what it comes to at the end of
-- an order.
use Rattle.std.specs.Prelude.{◌≡◌, ◌<◌, ℕ, suc, List, [], ◌∷◌, length, filter}
use Rattle.qs_objects.specs.audit.Parts.{same}
use Rattle.qs_objects.specs.declared.held.Ticket.{Ticket}
use Rattle.qs_program.specs.audit.Program.{ProgramShape, block_at, blocks_of}
use Rattle.qs_program.specs.audit.Values.{Locals}
use Rattle.qs_meaning.specs.audit.Serial.{IsLegal, declared_states, zeros}
use Rattle.qs_meaning.specs.audit.Solo.{States, put, solo}

-- how many blocks each client has begun, the clients' variables and the objects' states
pub record Configuration : Type 0 where
  pub begun : ℕ → ℕ
  pub locals : ℕ → Locals
  pub states : States

-- no block begun, all variables 0, and the objects as declared
abbrev pub first_configuration : ProgramShape → Configuration
first_configuration p = record { begun = λ _. 0; locals = λ _. zeros; states = declared_states p }

-- where the client's next block has run alone
abbrev pub one_block_on : ProgramShape → ℕ → Configuration → Configuration
one_block_on p c g =
    let o = solo (block_at p c (g.begun c)).body (g.locals c) g.states in
    record { begun = put g.begun c (suc (g.begun c)); locals = put g.locals c o.locals; states = o.states }

-- where the next block of each ticket's client has run, one after another
abbrev pub configuration_from : ProgramShape → Configuration → List Ticket → Configuration
configuration_from p g [] = g
configuration_from p g (t ∷ ts) = configuration_from p (one_block_on p t.client g) ts

abbrev pub configuration_after : ProgramShape → List Ticket → Configuration
configuration_after p order = configuration_from p (first_configuration p) order

-- a legal order that has each block of the program once
pub record IsComplete (p : ProgramShape) (order : List Ticket) : Type 0 where
  pub legal : IsLegal p order
  pub once : (t : Ticket) → t.index < blocks_of p t.client → length (filter (same t) order) ≡ 1
