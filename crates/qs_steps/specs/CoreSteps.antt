-- What is told of a step of the optimised machine.
use Rattle.std.specs.Prelude.{ℕ, List, [], ◌++◌, codes, length, nat_lt, if◌then◌else◌, Option, Some, None, option_map}
use Rattle.qs_objects.specs.audit.Act.{State}
use Rattle.qs_objects.specs.audit.Journals.{HeldState}
use Rattle.qs_objects.specs.declared.Request.{Request}
use Rattle.qs_handler.specs.Handler.{held_of}
use Rattle.qs_program.specs.audit.Program.{ProgramShape, client_at, object_at}
use Rattle.qs_syncset.specs.audit.Codes.{ClientCode}
use Rattle.qs_played.specs.audit.Schedule.{schedule}
use Rattle.qs_played.specs.declared.schedule.actor.Actor.{Actor}
use Rattle.qs_played.specs.declared.schedule.actor.Actor.TheVariants as actor
use Rattle.qs_core_laws.specs.audit.Core.{Core, core_begin, core_step}
use Rattle.qs_core.specs.CoreEffects.{core_effect, core_requests}
use Rattle.qs_core.specs.declared.core_effect.CoreEffect.{CoreEffect}
use Rattle.qs_core.specs.declared.core_effect.CoreEffect.TheVariants.{Reserves, TakesChunk, Sends, WaitsFor, Gets, Returns, EndsAt, Serves, Runs, GivesChunk, SeesWaiting, GivesItself, ComesBack, Leaves}
use Rattle.qs_json.specs.audit.Pieces.{field}
use Rattle.qs_steps.specs.Forms.{at_field, does_json, of_field, requests_in, ticket_field}
use Rattle.qs_steps.specs.Marks.{marked_requests}
use Rattle.qs_steps.specs.Told.{reserves_json, reserves_text, steppers_by, steps_by, ticket_text}
use Rattle.qs_steps.specs.declared.wanted.Form.{Form}
use Rattle.qs_steps.specs.declared.wanted.Form.TheVariants as form

-- What a client does, and what a handler does, with its object as it stands before. The requests are those of the chunk
-- that is sent or run.
abbrev pub core_effect_text : ProgramShape → Option State → CoreEffect → List Request → List ℕ
core_effect_text p o (Reserves t) rs = reserves_text p t
core_effect_text p o (TakesChunk h) rs = codes "takes an empty chunk of " ++ (object_at p h).name
core_effect_text p o Sends rs = codes "sends " ++ requests_in form.Text p rs
core_effect_text p o (WaitsFor h) rs = codes "waits for " ++ (object_at p h).name
core_effect_text p o (Gets h) rs = codes "gets " ++ (object_at p h).name
core_effect_text p o (Returns h) rs = codes "returns " ++ (object_at p h).name
core_effect_text p o (EndsAt t h) rs = codes "ends " ++ ticket_text p t ++ codes " at " ++ (object_at p h).name
core_effect_text p o (Serves t) rs = codes "serves " ++ ticket_text p t
core_effect_text p o (Runs t) rs = codes "runs " ++ marked_requests form.Text p o rs ++ codes " of " ++ ticket_text p t
core_effect_text p o (GivesChunk c) rs = codes "gives an empty chunk to " ++ (client_at p c).name
core_effect_text p o (SeesWaiting c) rs = codes "sees that " ++ (client_at p c).name ++ codes " waits"
core_effect_text p o (GivesItself c) rs = codes "gives itself to " ++ (client_at p c).name
core_effect_text p o (ComesBack c) rs = codes "comes back from " ++ (client_at p c).name
core_effect_text p o (Leaves t) rs = codes "leaves " ++ ticket_text p t

-- requests as an array
abbrev pub requests_field : List ℕ → List ℕ
requests_field requests = field (codes "requests") (codes "[" ++ requests ++ codes "]")

-- and the same by fields
abbrev pub core_effect_json : ProgramShape → Option State → CoreEffect → List Request → List ℕ
core_effect_json p o (Reserves t) rs = reserves_json p t
core_effect_json p o (TakesChunk h) rs = does_json (codes "takes") ++ at_field p h
core_effect_json p o Sends rs = does_json (codes "sends") ++ requests_field (requests_in form.Json p rs)
core_effect_json p o (WaitsFor h) rs = does_json (codes "waits") ++ at_field p h
core_effect_json p o (Gets h) rs = does_json (codes "gets") ++ at_field p h
core_effect_json p o (Returns h) rs = does_json (codes "returns") ++ at_field p h
core_effect_json p o (EndsAt t h) rs = does_json (codes "ends") ++ ticket_field p t ++ at_field p h
core_effect_json p o (Serves t) rs = does_json (codes "serves") ++ ticket_field p t
core_effect_json p o (Runs t) rs =
    does_json (codes "runs") ++ ticket_field p t ++ requests_field (marked_requests form.Json p o rs)
core_effect_json p o (GivesChunk c) rs = does_json (codes "gives_chunk") ++ of_field p c
core_effect_json p o (SeesWaiting c) rs = does_json (codes "sees") ++ of_field p c
core_effect_json p o (GivesItself c) rs = does_json (codes "gives_itself") ++ of_field p c
core_effect_json p o (ComesBack c) rs = does_json (codes "comes_back") ++ of_field p c
core_effect_json p o (Leaves t) rs = does_json (codes "leaves") ++ ticket_field p t

abbrev pub core_effect_in : Form → ProgramShape → Option State → CoreEffect → List Request → List ℕ
core_effect_in form.Text = core_effect_text
core_effect_in form.Json = core_effect_json

abbrev pub core_told_or_none : Form → ProgramShape → Option State → Option CoreEffect → List Request → List ℕ
core_told_or_none f p o None rs = []
core_told_or_none f p o (Some effect) rs = core_effect_in f p o effect rs

-- the object of an actor that is a handler, where the handler has it
abbrev pub core_object : ProgramShape → Core → Actor → Option State
core_object p s (actor.Client c) = None
core_object p s (actor.Handler h) =
    if nat_lt h (length p.objects) then option_map (λ (x : HeldState). x.object) (held_of (s.handler h)) else None

module _ (f : Form) (p : ProgramShape) (code : ℕ → ClientCode) (size : ℕ) where
  -- what is told of the step that an actor makes from a state
  abbrev pub core_told : Core → Actor → List ℕ
  core_told s a = core_told_or_none f p (core_object p s a) (core_effect code size s a) (core_requests code size s a)

  -- the lines of the picks and of so many rounds; the actors are numbered from 1 as they are asked
  unfoldable pub core_steps : List Actor → (rounds : ℕ) → List ℕ
  core_steps picks rounds = steps_by (core_step code size) f p core_told picks rounds (core_begin p)

-- the actors that step, in their order
abbrev pub core_steppers : ProgramShape → (ℕ → ClientCode) → (size : ℕ) → List Actor → (rounds : ℕ) → List Actor
core_steppers p code size picks rounds = steppers_by (core_step code size) (schedule p picks rounds) (core_begin p)
