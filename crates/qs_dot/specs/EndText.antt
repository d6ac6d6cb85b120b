-- What an outcome holds, on lines of its own, and its number among all outcomes.
use Rattle.std.specs.Prelude.{ℕ, suc, Bool, List, [], ◌∷◌, ◌++◌, codes, length, if◌then◌else◌, nat_eq, slice_index_or}
use Rattle.std.specs.Cmp.Lexicographic.{pointwise}
use Rattle.qs_objects.specs.audit.Act.{State}
use Rattle.qs_program.specs.audit.Program.{ProgramShape, client_at, object_at}
use Rattle.qs_meaning.specs.audit.Serial.{zeros}
use Rattle.qs_standings.specs.Standings.{StandingShape}
use Rattle.qs_text.specs.audit.Texts.{texts_up_to}
use Rattle.qs_text.specs.Variables.{variables_text}
use Rattle.qs_text.specs.audit.Words.{no_state, state_text}

-- an object with what it holds and how many commands it refused, on a line of its own in a label
abbrev pub holds_text : List ℕ → State → List ℕ
holds_text name s = codes "\\n" ++ state_text name s

-- the object of a number
abbrev pub object_text : ProgramShape → StandingShape → ℕ → List ℕ
object_text p s h = holds_text (object_at p h).name (slice_index_or s.states h no_state)

-- all objects
abbrev pub objects_text : ProgramShape → StandingShape → List ℕ
objects_text p s = texts_up_to (length p.objects) (object_text p s)

-- a client with its variables, on a line of its own
abbrev pub client_text : ProgramShape → StandingShape → ℕ → List ℕ
client_text p s c =
    codes "\\n" ++ (client_at p c).name
    ++ variables_text (client_at p c).variables (slice_index_or s.locals c zeros)

-- all that an outcome holds: the objects, and the clients' variables
abbrev pub end_text : ProgramShape → StandingShape → List ℕ
end_text p s = objects_text p s ++ texts_up_to (length p.clients) (client_text p s)

abbrev pub same_text : List ℕ → List ℕ → Bool
same_text = pointwise nat_eq

-- the number, from 1, of the first outcome of a list that holds what a text says
abbrev pub number_in : ProgramShape → List ℕ → List StandingShape → ℕ
number_in p text [] = 1
number_in p text (s ∷ ss) = if same_text (end_text p s) text then 1 else suc (number_in p text ss)
