-- The classes of a program's clients, as code has them.
use Rattle.std.specs.Prelude.{◌≡◌, ◌<◌, ◌≤◌, ℕ, List, slice_index_or}
use Rattle.qs_program.specs.audit.Program.{ProgramShape}
use Rattle.qs_alike.specs.Changes.{Classes, HaveSameText}

-- the class of each client by a list; a number past its end is in a class of its own
abbrev pub classes_in : List ℕ → Classes
classes_in xs c = slice_index_or xs c c

-- the number of the first client with the same text
pub record IsFirstAlike (p : ProgramShape) (c first : ℕ) : Type 0 where
  pub within : first ≤ c
  pub same : HaveSameText p first c
  pub none : (d : ℕ) → d < first → HaveSameText p d c → ⊥

-- up to a client, each client's class is the number of the first one with the same text, or its own
abbrev pub AreClassesUpTo : ProgramShape → ℕ → List ℕ → Type 0
AreClassesUpTo p to xs = (c : ℕ) → (c < to → IsFirstAlike p c (classes_in xs c)) × (to ≤ c → classes_in xs c ≡ c)
