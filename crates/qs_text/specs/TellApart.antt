-- Texts that tell what they are of: no two objects have one text, nor two lists of values of a client's variables.
use Rattle.std.specs.Prelude.{◌≡◌, ◌<◌, ℕ, ℤ, pos, List, FitsSigned, length, slice_index_or}
use Rattle.std.specs.Int.{w64}
use Rattle.std.specs.List.{AllByRecursion}
use Rattle.qs_objects.specs.audit.Act.{State}
use Rattle.qs_objects.specs.audit.Objects.{values_of}
use Rattle.qs_objects.specs.Objects.{IsInRange}
use Rattle.qs_program.specs.audit.Numbering.{Name}
use Rattle.qs_program.specs.audit.Program.{ProgramShape, client_at}
use Rattle.qs_program.specs.audit.Values.{Locals}
use Rattle.qs_meaning.specs.audit.Serial.{zeros}
use Rattle.qs_standings.specs.Standings.{StandingShape}
use Rattle.qs_text.specs.Variables.{variables_text}
use Rattle.qs_text.specs.audit.Words.{no_state, state_text}

-- a number of 64 bits, as each value that a program holds
abbrev pub IsWord : ℤ → Type 0
IsWord z = FitsSigned w64 z

-- an object's numbers are such
pub record IsOfWords (s : State) : Type 0 where
  pub values : AllByRecursion IsWord (values_of s.content)
  pub refused : IsWord s.refused

-- the values of so many variables are such
abbrev pub AreWords : ℕ → Locals → Type 0
AreWords count l = (x : ℕ) → x < count → IsWord (slice_index_or l x (pos 0))

-- so are those of an end's first objects, and the variables that its first clients' texts name
abbrev pub AreObjectsOfWords : (count : ℕ) → StandingShape → Type 0
AreObjectsOfWords count s = (h : ℕ) → h < count → IsOfWords (slice_index_or s.states h no_state)

abbrev pub AreClientsOfWords : ProgramShape → (count : ℕ) → StandingShape → Type 0
AreClientsOfWords p count s =
    (c : ℕ) → c < count → AreWords (length (client_at p c).variables) (slice_index_or s.locals c zeros)

-- and those of all that a program has
pub record IsEndOfWords (p : ProgramShape) (s : StandingShape) : Type 0 where
  pub objects : AreObjectsOfWords (length p.objects) s
  pub clients : AreClientsOfWords p (length p.clients) s

-- the values of so many variables are the same
abbrev pub AreSame : ℕ → (l m : Locals) → Type 0
AreSame count l m = (x : ℕ) → x < count → slice_index_or l x (pos 0) ≡ slice_index_or m x (pos 0)

-- Objects in the range of their kinds that have one text under a name are the same.
abbrev pub StatesTellApart : Type 0
StatesTellApart =
    (name : List ℕ) (s t : State) → IsInRange s.content → IsInRange t.content → IsOfWords s → IsOfWords t
    → state_text name s ≡ state_text name t → s ≡ t

-- Where the variables of a client have one text, their values are the same.
abbrev pub VariablesTellApart : Type 0
VariablesTellApart =
    (names : List Name) (l m : Locals) → AreWords (length names) l → AreWords (length names) m
    → variables_text names l ≡ variables_text names m → AreSame (length names) l m
