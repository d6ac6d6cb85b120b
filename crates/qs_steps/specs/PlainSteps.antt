-- What is told of a step under the plain rules.
use Rattle.std.specs.Prelude.{ℕ, List, [], ◌++◌, codes, Option, Some, None, option_map, slice_get}
use Rattle.qs_objects.specs.audit.Act.{State}
use Rattle.qs_program.specs.audit.Program.{ProgramShape}
use Rattle.qs_played.specs.audit.Schedule.{schedule}
use Rattle.qs_played.specs.declared.schedule.actor.Actor.{Actor}
use Rattle.qs_played.specs.declared.schedule.actor.Actor.TheVariants as actor
use Rattle.qs_plain_laws.specs.audit.Plain.{Handler, Plain, begin, step}
use Rattle.qs_plain.specs.handler.Effects.{plain_effect}
use Rattle.qs_plain.specs.declared.handler.effect.Effect.{Effect}
use Rattle.qs_plain.specs.declared.handler.effect.Effect.TheVariants.{Reserves, Logs, Asks, Ends, Runs, Answers, Leaves}
use Rattle.qs_text.specs.audit.Words.{request_text}
use Rattle.qs_json.specs.audit.Pieces.{field}
use Rattle.qs_steps.specs.Forms.{does_json, request_in, ticket_field}
use Rattle.qs_steps.specs.Marks.{marked}
use Rattle.qs_steps.specs.Told.{reserves_json, reserves_text, steppers_by, steps_by, ticket_text}
use Rattle.qs_steps.specs.declared.wanted.Form.{Form}
use Rattle.qs_steps.specs.declared.wanted.Form.TheVariants as form

-- a client reserves its next block, logs a command, asks a query, or ends its block; a handler, with its object as it
-- stands before, runs a command, answers a query, or leaves a ticket
abbrev pub effect_text : ProgramShape → Option State → Effect → List ℕ
effect_text p o (Reserves t) = reserves_text p t
effect_text p o (Logs r) = codes "logs " ++ request_text p r
effect_text p o (Asks r) = codes "asks " ++ request_text p r
effect_text p o (Ends t) = codes "ends " ++ ticket_text p t
effect_text p o (Runs t r) = codes "runs " ++ marked form.Text p o r None ++ codes " of " ++ ticket_text p t
effect_text p o (Answers t r v) = codes "answers " ++ marked form.Text p o r v ++ codes " of " ++ ticket_text p t
effect_text p o (Leaves t) = codes "leaves " ++ ticket_text p t

-- and the same by fields
abbrev pub effect_json : ProgramShape → Option State → Effect → List ℕ
effect_json p o (Reserves t) = reserves_json p t
effect_json p o (Logs r) = does_json (codes "logs") ++ field (codes "request") (request_in form.Json p r)
effect_json p o (Asks r) = does_json (codes "asks") ++ field (codes "request") (request_in form.Json p r)
effect_json p o (Ends t) = does_json (codes "ends") ++ ticket_field p t
effect_json p o (Runs t r) =
    does_json (codes "runs") ++ ticket_field p t ++ field (codes "request") (marked form.Json p o r None)
effect_json p o (Answers t r v) =
    does_json (codes "answers") ++ ticket_field p t ++ field (codes "request") (marked form.Json p o r v)
effect_json p o (Leaves t) = does_json (codes "leaves") ++ ticket_field p t

abbrev pub effect_in : Form → ProgramShape → Option State → Effect → List ℕ
effect_in form.Text = effect_text
effect_in form.Json = effect_json

abbrev pub told_or_none : Form → ProgramShape → Option State → Option Effect → List ℕ
told_or_none f p o None = []
told_or_none f p o (Some effect) = effect_in f p o effect

-- the object of an actor that is a handler
abbrev pub plain_object : Plain → Actor → Option State
plain_object s (actor.Client c) = None
plain_object s (actor.Handler h) = option_map (λ (x : Handler). x.held.object) (slice_get s.handlers h)

-- what is told of the step that an actor makes from a state
abbrev pub plain_told : Form → ProgramShape → Plain → Actor → List ℕ
plain_told f p s a = told_or_none f p (plain_object s a) (plain_effect s a)

-- the lines of the picks and of so many rounds; the actors are numbered from 1 as they are asked
unfoldable pub plain_steps : Form → ProgramShape → List Actor → (rounds : ℕ) → List ℕ
plain_steps f p picks rounds = steps_by (step p) f p (plain_told f p) picks rounds (begin p)

-- the actors that step, in their order
abbrev pub plain_steppers : ProgramShape → List Actor → (rounds : ℕ) → List Actor
plain_steppers p picks rounds = steppers_by (step p) (schedule p picks rounds) (begin p)
