-- What lines of text and objects of JSON have in common, and what the objects are made of.
use Rattle.std.specs.Prelude.{ℕ, ℤ, List, [], ◌++◌, codes, decimal, flat_map, Option, None}
use Rattle.std.specs.List.{join_by, range_with_len}
use Rattle.qs_objects.specs.declared.Request.{Request}
use Rattle.qs_objects.specs.declared.held.Ticket.{Ticket}
use Rattle.qs_program.specs.audit.Program.{ProgramShape, client_at, object_at}
use Rattle.qs_text.specs.declared.fates.fate.Fate.{Fate}
use Rattle.qs_text.specs.audit.Words.{request_text}
use Rattle.qs_json.specs.audit.Pieces.{comma_at, field, first_field, quoted}
use Rattle.qs_json.specs.audit.RunJson.{event_json}
use Rattle.qs_steps.specs.declared.wanted.Form.{Form}
use Rattle.qs_steps.specs.declared.wanted.Form.TheVariants as form

-- whose a ticket is, as the first fields of an object
abbrev pub block_fields : ProgramShape → Ticket → List ℕ
block_fields p t =
    first_field (codes "client") (quoted (client_at p t.client).name) ++ field (codes "block") (decimal t.index)

abbrev pub ticket_json : ProgramShape → Ticket → List ℕ
ticket_json p t = block_fields p t ++ codes "}"

-- a request with its reply and with what became of it, as the report's object has it
abbrev pub run_json : ProgramShape → Request → Option ℤ → Option Fate → List ℕ
run_json p r reply fate = event_json p (record { request = r; reply = reply }) fate

-- The fields of a step: what was done, by one word; the ticket; the object of the handler with which a client has to
-- do; and the client with which a handler has to do.
abbrev pub does_json : List ℕ → List ℕ
does_json word = field (codes "does") (quoted word)

abbrev pub ticket_field : ProgramShape → Ticket → List ℕ
ticket_field p t = field (codes "ticket") (ticket_json p t)

abbrev pub at_field : ProgramShape → (object : ℕ) → List ℕ
at_field p h = field (codes "at") (quoted (object_at p h).name)

abbrev pub of_field : ProgramShape → (client : ℕ) → List ℕ
of_field p c = field (codes "of") (quoted (client_at p c).name)

-- what stands between two of several on one line
abbrev pub between : Form → List ℕ
between form.Text = codes " "
between form.Json = codes ","

abbrev pub name_in : Form → List ℕ → List ℕ
name_in form.Text name = name
name_in form.Json name = quoted name

abbrev pub names_in : Form → ProgramShape → List ℕ → List ℕ
names_in f p hs = join_by (λ h. name_in f (object_at p h).name) (between f) hs

-- a request that its object has not run yet
abbrev pub request_in : Form → ProgramShape → Request → List ℕ
request_in form.Text p r = request_text p r
request_in form.Json p r = run_json p r None None

abbrev pub requests_in : Form → ProgramShape → List Request → List ℕ
requests_in f p rs = join_by (request_in f p) (between f) rs

-- what stands in JSON alone
abbrev pub only_json : Form → List ℕ → List ℕ
only_json form.Text word = []
only_json form.Json word = word

-- the lines of a list, one after another, or the elements of an array
abbrev pub listed : Form → {A : Type 0} → (A → List ℕ) → List A → List ℕ
listed form.Text line xs = flat_map line xs
listed form.Json element xs = join_by element (codes ",") xs

-- and those of the numbers from 0 up to n
abbrev pub numbered : Form → (ℕ → List ℕ) → ℕ → List ℕ
numbered f text n = flat_map (λ i. only_json f (comma_at i) ++ text i) (range_with_len 0 n)
