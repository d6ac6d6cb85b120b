-- What is told of the queues of a run, under the plain rules or on the optimised machine: as lines of text, or as one
-- object of JSON.
use Rattle.std.specs.Prelude.{ℕ, Bool, true, false, if◌then◌else◌, List, [], ◌++◌, codes, decimal, length}
use Rattle.qs_program.specs.audit.Program.{ProgramShape, client_at, object_at}
use Rattle.qs_json.specs.audit.Pieces.{field, first_field, quoted, truth}
use Rattle.qs_steps.specs.Forms.{at_field, listed, numbered, only_json}
use Rattle.qs_steps.specs.declared.wanted.Form.{Form}
use Rattle.qs_steps.specs.declared.wanted.Form.TheVariants as form

-- a handler's object, and in text how many reservations are before the handler
abbrev pub queue_head : Form → ProgramShape → (h count : ℕ) → List ℕ
queue_head form.Text p h count = codes "queue " ++ (object_at p h).name ++ codes " " ++ decimal count ++ codes "\n"
queue_head form.Json p h count =
    first_field (codes "object") (quoted (object_at p h).name) ++ codes ",\"reservations\":["

-- with all these reservations
abbrev pub queue_in : Form → {A : Type 0} → (A → List ℕ) → ProgramShape → (h : ℕ) → List A → List ℕ
queue_in f text p h xs = queue_head f p h (length xs) ++ listed f text xs ++ only_json f (codes "]")

-- whether a client is done, and what it waits for
abbrev pub wait_fields : (done : Bool) → (word : List ℕ) → List ℕ
wait_fields done word = field (codes "done") (truth done) ++ field (codes "waits") (quoted word)

abbrev pub waits_nothing : Form → List ℕ
waits_nothing form.Text = codes "waits for nothing"
waits_nothing form.Json = wait_fields false (codes "nothing")

abbrev pub is_done : Form → List ℕ
is_done form.Text = codes "is done"
is_done form.Json = wait_fields true (codes "nothing")

-- it waits for something of a handler, in several words or in one
abbrev pub waits_at : Form → (words word : List ℕ) → ProgramShape → (h : ℕ) → List ℕ
waits_at form.Text words word p h = words ++ (object_at p h).name
waits_at form.Json words word p h = wait_fields false word ++ at_field p h

-- a client, and what it waits for
abbrev pub client_head : Form → ProgramShape → (c : ℕ) → List ℕ
client_head form.Text p c = codes "client " ++ (client_at p c).name ++ codes " "
client_head form.Json p c = first_field (codes "client") (quoted (client_at p c).name)

abbrev pub client_end : Form → List ℕ
client_end form.Text = codes "\n"
client_end form.Json = codes "}"

abbrev pub client_in : Form → ProgramShape → (c : ℕ) → (wait : List ℕ) → List ℕ
client_in f p c wait = client_head f p c ++ wait ++ client_end f

-- all handlers and then all clients, in text order
abbrev pub queues_by : Form → ProgramShape → (handler client : ℕ → List ℕ) → List ℕ
queues_by f p handler client =
    only_json f (codes "{\"queues\":[") ++ numbered f handler (length p.objects)
    ++ only_json f (codes "],\"clients\":[") ++ numbered f client (length p.clients) ++ only_json f (codes "]}\n")

-- of a run that is finished text tells nothing
abbrev pub is_silent : Form → (finished : Bool) → Bool
is_silent form.Text finished = finished
is_silent form.Json finished = false

abbrev pub unless_silent : Form → (finished : Bool) → List ℕ → List ℕ
unless_silent f finished queues = if is_silent f finished then [] else queues
