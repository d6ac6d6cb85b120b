-- What a place says of its objects and clients, in few words.
use Rattle.std.specs.Prelude.{ℕ, ℤ, pos, min, Bool, ◌&&◌, not, List, [], ◌++◌, codes, length, if◌then◌else◌, nat_eq, nat_lt, slice_index_or}
use Rattle.std.specs.Fmt.{signed_decimal}
use Rattle.std.specs.List.{list_any}
use Rattle.std.specs.Ordering.{int_eq}
use Rattle.qs_objects.specs.audit.Act.{State}
use Rattle.qs_objects.specs.audit.Objects.{kind_of, values_of}
use Rattle.qs_objects.specs.declared.object.Kind.{Kind}
use Rattle.qs_objects.specs.declared.object.Kind.TheVariants as kinds
use Rattle.qs_program.specs.audit.Program.{ProgramShape, client_at, object_at}
use Rattle.qs_standings.specs.Standings.{StandingShape}
use Rattle.qs_text.specs.audit.Texts.{spaced_value, texts_up_to}
use Rattle.qs_text.specs.audit.Words.{no_state}
use Rattle.qs_dot.specs.EndText.{client_text, same_text}

-- so many values of an object are told at most
abbrev pub most_told : ℕ
most_told = 8

abbrev pub closing_text : (values : ℕ) → List ℕ
closing_text n = if nat_lt most_told n then codes " ..]" else codes "]"

abbrev pub told_values : List ℤ → List ℕ
told_values values =
    codes "[" ++ texts_up_to (min (length values) most_told) (spaced_value values) ++ closing_text (length values)

-- what an object holds, without its kind, and how many commands it refused, where it refused some
abbrev pub short_content : Kind → List ℤ → List ℕ
short_content (kinds.Account balance) values = signed_decimal balance
short_content (kinds.Buffer capacity) values = told_values values
short_content (kinds.Grid rows columns) values = told_values values

abbrev pub refused_text : ℤ → List ℕ
refused_text n = if int_eq n (pos 0) then [] else codes " refused " ++ signed_decimal n

-- an object on a line of its own in a label
abbrev pub short_state : List ℕ → State → List ℕ
short_state name s =
    codes "\\n" ++ name ++ codes " " ++ short_content (kind_of s.content) (values_of s.content)
    ++ refused_text s.refused

abbrev pub short_object : ProgramShape → StandingShape → ℕ → List ℕ
short_object p s h = short_state (object_at p h).name (slice_index_or s.states h no_state)

-- all objects
abbrev pub short_objects : ProgramShape → StandingShape → List ℕ
short_objects p s = texts_up_to (length p.objects) (short_object p s)

-- a client with its variables, where it has some
abbrev pub short_client : ProgramShape → StandingShape → ℕ → List ℕ
short_client p s c = if nat_eq (length (client_at p c).variables) 0 then [] else client_text p s c

-- all clients
abbrev pub short_clients : ProgramShape → StandingShape → List ℕ
short_clients p s = texts_up_to (length p.clients) (short_client p s)

-- whether a place says this of its objects, and something else of its clients
abbrev pub differs : ProgramShape → (objects clients : List ℕ) → StandingShape → Bool
differs p objects clients t =
    same_text (short_objects p t) objects && not (same_text (short_clients p t) clients)

-- whether one of some places is told from another one by the clients' variables, and not by the objects
abbrev pub told_by_variables : ProgramShape → List StandingShape → StandingShape → Bool
told_by_variables p places s = list_any (differs p (short_objects p s) (short_clients p s)) places
