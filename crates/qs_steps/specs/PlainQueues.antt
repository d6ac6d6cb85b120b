-- Where a run under the plain rules is: who is in each handler's queue of queues, in which order, what lies in each
-- private queue, and what each client waits for.
use Rattle.std.specs.Prelude.{ℕ, false, if◌then◌else◌, nat_lt, List, [], ◌∷◌, ◌++◌, codes, flat_map}
use Rattle.qs_program.specs.audit.Program.{ProgramShape, blocks_of}
use Rattle.qs_played.specs.declared.schedule.actor.Actor.{Actor}
use Rattle.qs_plain_laws.specs.audit.Plain.{Client, Handler, Plain, Private, StageOfClient, out, within, waiting, begun_blocks, client_at, handler_at}
use Rattle.qs_plain_laws.specs.audit.PlainSchedule.{is_finished}
use Rattle.qs_plain_laws.specs.PlainSchedule.{scheduled}
use Rattle.qs_plain_laws.specs.declared.item.QueueItem.{QueueItem}
use Rattle.qs_plain_laws.specs.declared.item.QueueItem.TheVariants as item
use Rattle.qs_json.specs.audit.Pieces.{field, first_field, quoted}
use Rattle.qs_steps.specs.Forms.{block_fields, listed, only_json, request_in}
use Rattle.qs_steps.specs.Queues.{client_in, is_done, queue_in, queues_by, unless_silent, wait_fields, waits_nothing}
use Rattle.qs_steps.specs.Told.{ticket_text}
use Rattle.qs_steps.specs.declared.wanted.Form.{Form}
use Rattle.qs_steps.specs.declared.wanted.Form.TheVariants as form

-- a command or a query by its request, and the end mark by a word
abbrev pub item_text : ProgramShape → QueueItem → List ℕ
item_text p (item.Command r) = request_in form.Text p r
item_text p (item.Query r) = request_in form.Text p r
item_text p item.EndMark = codes "end"

-- each by its kind, and a command or a query with its request
abbrev pub item_json : ProgramShape → QueueItem → List ℕ
item_json p (item.Command r) =
    first_field (codes "item") (quoted (codes "command")) ++ field (codes "request") (request_in form.Json p r)
    ++ codes "}"
item_json p (item.Query r) =
    first_field (codes "item") (quoted (codes "query")) ++ field (codes "request") (request_in form.Json p r)
    ++ codes "}"
item_json p item.EndMark = first_field (codes "item") (quoted (codes "end")) ++ codes "}"

abbrev pub item_in : Form → ProgramShape → QueueItem → List ℕ
item_in form.Text = item_text
item_in form.Json = item_json

-- texts, each after a space, or a dash where there are none
abbrev pub spaced : {A : Type 0} → (A → List ℕ) → List A → List ℕ
spaced text [] = codes " -"
spaced text (x ∷ xs) = flat_map (λ y. codes " " ++ text y) (x ∷ xs)

-- whose a private queue is, and what lies in it
abbrev pub private_in : Form → ProgramShape → Private → List ℕ
private_in form.Text p q = ticket_text p q.ticket ++ spaced (item_in form.Text p) q.items ++ codes "\n"
private_in form.Json p q =
    block_fields p q.ticket ++ codes ",\"items\":[" ++ listed form.Json (item_in form.Json p) q.items ++ codes "]}"

-- a handler's private queues, the first of which it serves
abbrev pub handler_in : Form → ProgramShape → ℕ → Handler → List ℕ
handler_in f p h it = queue_in f (private_in f p) p h it.queues ++ only_json f (codes "}")

abbrev pub waits_reply : Form → List ℕ
waits_reply form.Text = codes "waits for a reply"
waits_reply form.Json = wait_fields false (codes "reply")

-- a client waits for the reply of its query alone; between two blocks it is done where none is to come
abbrev pub wait_in : Form → ProgramShape → (c : ℕ) → Client → StageOfClient → List ℕ
wait_in f p c it (out l) = if nat_lt (begun_blocks it) (blocks_of p c) then waits_nothing f else is_done f
wait_in f p c it (within rest) = waits_nothing f
wait_in f p c it (waiting next) = waits_reply f

module _ (f : Form) (p : ProgramShape) where
  abbrev pub handler_of : Plain → ℕ → List ℕ
  handler_of s h = handler_in f p h (handler_at s.handlers h)

  abbrev pub client_of : Plain → ℕ → List ℕ
  client_of s c = client_in f p c (wait_in f p c (client_at s c) (client_at s c).stage)

  abbrev pub queues_in : Plain → List ℕ
  queues_in s = unless_silent f (is_finished p s) (queues_by f p (handler_of s) (client_of s))

  -- after a schedule
  unfoldable pub plain_queues : List Actor → (rounds : ℕ) → List ℕ
  plain_queues picks rounds = queues_in (scheduled p picks rounds)
