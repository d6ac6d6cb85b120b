-- Beside what the headline reaches (`audit/Tickets.antt`): what else contracts and proofs use.
use Rattle.std.specs.Prelude.{◌≡◌, ℕ, true, List, [], ◌∷◌, ◌++◌}
use Rattle.qs_objects.specs.declared.held.Ticket as held
use Rattle.qs_objects.specs.declared.held.Next.{Next}
use Rattle.qs_objects.specs.declared.held.Next.TheVariants.{Ticket, Closed}
use Rattle.qs_program.specs.audit.Program.{ProgramShape}
use Rattle.qs_meaning.specs.audit.Following.{reserves}

abbrev pub ticket : ℕ → ℕ → held.Ticket
ticket client index = record { client = client; index = index }

-- the ticket's block reserves the handler
abbrev pub IsFor : ProgramShape → ℕ → Next → Type 0
IsFor p h (Ticket t) = reserves p t h ≡ true
IsFor p h Closed = Unit {0}

-- tickets whose blocks reserve the handler, and nothing after the closing mark
abbrev pub AreFor : ProgramShape → ℕ → List Next → Type 0
AreFor p h [] = Unit {0}
AreFor p h (Ticket t ∷ xs) = (reserves p t h ≡ true) × AreFor p h xs
AreFor p h (Closed ∷ []) = Unit {0}
AreFor p h (Closed ∷ x ∷ xs) = ⊥

pub for_front : (p : ProgramShape) (h : ℕ) (xs ys : List Next) → AreFor p h (xs ++ ys) → AreFor p h xs
for_front p h [] ys is = tt
for_front p h (Ticket t ∷ xs) ys is = (is.0, for_front p h xs ys is.1)
for_front p h (Closed ∷ []) ys is = tt
for_front p h (Closed ∷ x ∷ xs) ys is = is
