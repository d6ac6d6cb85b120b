-- Alike clients may change places: what they do there is what they did, by their new numbers.
use Rattle.std.specs.Prelude.{◌≡◌, ◌<◌, ◌≤◌, ℕ, List, length, map}
use Rattle.qs_objects.specs.declared.held.Ticket.{Ticket}
use Rattle.qs_program.specs.audit.Program.{ProgramShape, client_at}
use Rattle.qs_meaning.specs.audit.Configurations.{Configuration, IsComplete, configuration_after}
use Rattle.qs_meaning.specs.Configurations.{IsProgramOutcome, OrderOutcome}
use Rattle.qs_meaning.specs.audit.Serial.{IsLegal}

-- which clients are taken to be alike: those of one class
abbrev pub Classes : Type 0
Classes = ℕ → ℕ

-- Clients of one class have the same blocks, by the numbers of objects and variables, over as many variables: what they
-- and their variables are called plays no part. A number that is no client's is in a class of its own.
pub record AreClasses (p : ProgramShape) (k : Classes) : Type 0 where
  pub blocks : (c d : ℕ) → k c ≡ k d → (client_at p c).blocks ≡ (client_at p d).blocks
  pub variables : (c d : ℕ) → k c ≡ k d → length (client_at p c).variables ≡ length (client_at p d).variables
  pub alone : (c d : ℕ) → length p.clients ≤ c → k c ≡ k d → c ≡ d

-- two clients with the same blocks, over as many variables
pub record HaveSameText (p : ProgramShape) (c d : ℕ) : Type 0 where
  pub blocks : (client_at p c).blocks ≡ (client_at p d).blocks
  pub variables : length (client_at p c).variables ≡ length (client_at p d).variables

-- all clients with the same text are of one class
abbrev pub AreAllAlike : ProgramShape → Classes → Type 0
AreAllAlike p k = (c d : ℕ) → c < length p.clients → d < length p.clients → HaveSameText p c d → k c ≡ k d

-- each client's new number, and whose number it was
pub record Change : Type 0 where
  pub new : ℕ → ℕ
  pub old : ℕ → ℕ

-- every client gets the number of one of its class, and no two get one number
pub record IsChange (k : Classes) (x : Change) : Type 0 where
  pub there : (c : ℕ) → x.old (x.new c) ≡ c
  pub back : (c : ℕ) → x.new (x.old c) ≡ c
  pub alike : (c : ℕ) → k (x.new c) ≡ k c

abbrev pub changed_ticket : Change → Ticket → Ticket
changed_ticket x t = record { client = x.new t.client; index = t.index }

abbrev pub changed_order : Change → List Ticket → List Ticket
changed_order x order = map (changed_ticket x) order

abbrev pub changed : Change → Configuration → Configuration
changed x g = record {
  begun = λ c. g.begun (x.old c);
  locals = λ c. g.locals (x.old c);
  states = g.states;
}

abbrev pub changed_outcome : Change → OrderOutcome → OrderOutcome
changed_outcome x o = record { locals = λ c. o.locals (x.old c); states = o.states }

-- what a configuration becomes by some change
abbrev pub Becomes : Classes → Configuration → Configuration → Type 0
Becomes k g h = (x : Change) × IsChange k x × (h ≡ changed x g)

-- each client is in a class of its own
abbrev pub AreAlone : Classes → Type 0
AreAlone k = (c d : ℕ) → k c ≡ k d → c ≡ d

-- the change of a legal order is legal, and leads to the change of where the order leads; of a complete order it is
-- complete
pub record IsOrderChanged (p : ProgramShape) (x : Change) (order : List Ticket) : Type 0 where
  pub legal : IsLegal p order → IsLegal p (changed_order x order)
  pub complete : IsComplete p order → IsComplete p (changed_order x order)
  pub leads : configuration_after p (changed_order x order) ≡ changed x (configuration_after p order)

-- So it is for each change of alike clients and each order.
abbrev pub ChangesKeepOrders : Type 0
ChangesKeepOrders =
    (p : ProgramShape) (k : Classes) → AreClasses p k → (x : Change) → IsChange k x → (order : List Ticket)
    → IsOrderChanged p x order

-- What a program can come to, it can come to with alike clients in each other's places.
abbrev pub ChangesKeepOutcomes : Type 0
ChangesKeepOutcomes =
    (p : ProgramShape) (k : Classes) → AreClasses p k → (x : Change) → IsChange k x → (o : OrderOutcome)
    → IsProgramOutcome p o → IsProgramOutcome p (changed_outcome x o)
