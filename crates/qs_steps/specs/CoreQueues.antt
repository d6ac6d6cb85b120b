-- Where a run of the optimised machine is: which tickets each handler has before it, what lies in the lanes to it, and
-- what each client waits for.
use Rattle.std.specs.Prelude.{ℕ, zero, suc, if◌then◌else◌, nat_lt, List, [], ◌∷◌, ◌++◌, codes, flat_map, length, Option, Some, None}
use Rattle.qs_objects.specs.audit.Journals.{HeldState}
use Rattle.qs_objects.specs.declared.held.Ticket.{Ticket}
use Rattle.qs_program.specs.audit.Program.{ProgramShape, client_at}
use Rattle.qs_syncset.specs.audit.Codes.{ClientCode}
use Rattle.qs_chunk.specs.audit.Limits.{lane_room}
use Rattle.qs_chunk.specs.declared.parcel.Parcel.{Parcel}
use Rattle.qs_chunk.specs.declared.parcel.Parcel.TheVariants.{Work, Sync, Home, End}
use Rattle.qs_client.specs.declared.rules.act.Act.{Act}
use Rattle.qs_client.specs.declared.rules.act.Act.TheVariants as wants
use Rattle.qs_played.specs.declared.schedule.actor.Actor.{Actor}
use Rattle.qs_core_laws.specs.audit.Core.{Core}
use Rattle.qs_core_laws.specs.audit.CoreSchedule.{is_finished}
use Rattle.qs_core_laws.specs.CoreSchedule.{before_it, core_scheduled}
use Rattle.qs_core.specs.CoreEffects.{act_at}
use Rattle.qs_json.specs.audit.Pieces.{comma_at, first_field, quoted}
use Rattle.qs_steps.specs.CoreSteps.{requests_field}
use Rattle.qs_steps.specs.Forms.{listed, numbered, only_json, requests_in, ticket_json}
use Rattle.qs_steps.specs.Queues.{client_in, is_done, queue_in, queues_by, unless_silent, waits_at, waits_nothing}
use Rattle.qs_steps.specs.Told.{ticket_text}
use Rattle.qs_steps.specs.declared.wanted.Form.{Form}
use Rattle.qs_steps.specs.declared.wanted.Form.TheVariants as form

-- a chunk by its requests, and each other parcel by a word
abbrev pub chunk_in : Form → (requests : List ℕ) → List ℕ
chunk_in form.Text requests = codes "[" ++ requests ++ codes "]"
chunk_in form.Json requests =
    first_field (codes "parcel") (quoted (codes "chunk")) ++ requests_field requests ++ codes "}"

abbrev pub word_in : Form → List ℕ → List ℕ
word_in form.Text word = word
word_in form.Json word = first_field (codes "parcel") (quoted word) ++ codes "}"

abbrev pub parcel_in : Form → ProgramShape → Parcel → List ℕ
parcel_in f p (Work chunk) = chunk_in f (requests_in f p chunk.items)
parcel_in f p Sync = word_in f (codes "sync")
parcel_in f p (Home x) = word_in f (codes "home")
parcel_in f p End = word_in f (codes "end")

-- what stands before the parcel at a place: in text a space, and in JSON a comma, but before the first
abbrev pub gap_in : Form → ℕ → List ℕ
gap_in form.Text i = codes " "
gap_in form.Json i = comma_at i

abbrev pub parcels_in : Form → ProgramShape → List Parcel → List ℕ
parcels_in form.Text p xs = flat_map (λ x. codes " " ++ parcel_in form.Text p x) xs
parcels_in form.Json p xs = listed form.Json (parcel_in form.Json p) xs

-- in text a lane in which nothing lies has no line
abbrev pub lane_in : Form → ProgramShape → (c : ℕ) → List Parcel → List ℕ
lane_in form.Text p c [] = []
lane_in form.Text p c (x ∷ xs) =
    codes "lane " ++ (client_at p c).name ++ parcels_in form.Text p (x ∷ xs) ++ codes "\n"
lane_in form.Json p c xs =
    first_field (codes "client") (quoted (client_at p c).name) ++ codes ",\"parcels\":[" ++ parcels_in form.Json p xs
    ++ codes "]}"

abbrev pub waiting_in : Form → ProgramShape → Ticket → List ℕ
waiting_in form.Text p t = ticket_text p t ++ codes "\n"
waiting_in form.Json p t = ticket_json p t

-- the ticket that a handler serves and those in its queue, and then the lanes to it
abbrev pub handler_in : Form → ProgramShape → Core → (h : ℕ) → List ℕ
handler_in f p s h =
    queue_in f (waiting_in f p) p h (before_it s h)
    ++ only_json f (codes ",\"lanes\":[") ++ numbered f (λ c. lane_in f p c (s.down c h)) (length p.clients)
    ++ only_json f (codes "]}")

abbrev pub waits_object : Form → ProgramShape → (h : ℕ) → List ℕ
waits_object f = waits_at f (codes "waits for ") (codes "object")

abbrev pub waits_chunk : Form → ProgramShape → (h : ℕ) → List ℕ
waits_chunk f = waits_at f (codes "waits for an empty chunk of ") (codes "chunk")

abbrev pub wait_for_object : Form → ProgramShape → (h : ℕ) → Option HeldState → List ℕ
wait_for_object f p h None = waits_object f p h
wait_for_object f p h (Some x) = waits_nothing f

abbrev pub wait_for_chunk : Form → ProgramShape → (h : ℕ) → (spare : ℕ) → List ℕ
wait_for_chunk f p h zero = waits_chunk f p h
wait_for_chunk f p h (suc n) = waits_nothing f

-- a client waits for an object, for an empty chunk, or for room in a lane
abbrev pub wait_in : Form → ProgramShape → Core → (c : ℕ) → Act → List ℕ
wait_in f p s c wants.Reserve = waits_nothing f
wait_in f p s c (wants.Send h parcel) =
    if nat_lt (length (s.down c h)) lane_room then waits_nothing f else waits_at f (codes "waits for room to ")
    (codes "room") p h
wait_in f p s c (wants.Await h) = wait_for_object f p h (s.up c h)
wait_in f p s c (wants.NeedChunk h) = wait_for_chunk f p h (s.spare c h)
wait_in f p s c wants.Finished = is_done f

module _ (f : Form) (p : ProgramShape) (code : ℕ → ClientCode) (size : ℕ) where
  abbrev pub client_of : Core → ℕ → List ℕ
  client_of s c = client_in f p c (wait_in f p s c (act_at code size s c))

  abbrev pub queues_in : Core → List ℕ
  queues_in s = unless_silent f (is_finished p s) (queues_by f p (handler_in f p s) (client_of s))

  -- after a schedule
  unfoldable pub core_queues : List Actor → (rounds : ℕ) → List ℕ
  core_queues picks rounds = queues_in (core_scheduled p code size picks rounds)
