-- What is told of steps, as lines of text or as objects of JSON: what each step of a run has done, and which actors
-- stepped, for any machine.
use Rattle.std.specs.Prelude.{ℕ, ◌+◌, Bool, true, false, List, [], ◌∷◌, ◌++◌, codes, decimal, length, Option, Some, None}
use Rattle.qs_objects.specs.declared.held.Ticket.{Ticket}
use Rattle.qs_program.specs.audit.Program.{ProgramShape, client_at, object_at, text_of}
use Rattle.qs_played.specs.audit.Schedule.{actors_of, or_stay, plays_by, rounds_of}
use Rattle.qs_played.specs.declared.schedule.actor.Actor.{Actor}
use Rattle.qs_played.specs.declared.schedule.actor.Actor.TheVariants as actor
use Rattle.qs_json.specs.audit.Pieces.{field, first_field, quoted}
use Rattle.qs_steps.specs.Forms.{does_json, names_in, ticket_field}
use Rattle.qs_steps.specs.declared.wanted.Form.{Form}
use Rattle.qs_steps.specs.declared.wanted.Form.TheVariants as form

-- who steps: a client by its name, or a handler by its object's
abbrev pub actor_text : ProgramShape → Actor → List ℕ
actor_text p (actor.Client c) = (client_at p c).name
actor_text p (actor.Handler h) = (object_at p h).name

abbrev pub actor_field : ProgramShape → Actor → List ℕ
actor_field p (actor.Client c) = field (codes "client") (quoted (client_at p c).name)
actor_field p (actor.Handler h) = field (codes "object") (quoted (object_at p h).name)

-- a ticket as the report has it
abbrev pub ticket_text : ProgramShape → Ticket → List ℕ
ticket_text p t = codes "ticket " ++ (client_at p t.client).name ++ codes " " ++ decimal t.index

-- a client reserves the objects of a block's list
abbrev pub reserves_text : ProgramShape → Ticket → List ℕ
reserves_text p t =
    codes "reserves " ++ names_in form.Text p (text_of p t).reserved ++ codes " (" ++ ticket_text p t ++ codes ")"

abbrev pub reserves_json : ProgramShape → Ticket → List ℕ
reserves_json p t =
    does_json (codes "reserves") ++ ticket_field p t
    ++ field (codes "objects") (codes "[" ++ names_in form.Json p (text_of p t).reserved ++ codes "]")

-- the number and the actor of a line, before what is told of its step
abbrev pub line_head : Form → ProgramShape → ℕ → Actor → List ℕ
line_head form.Text p n a = decimal n ++ codes " " ++ actor_text p a ++ codes " "
line_head form.Json p n a = first_field (codes "step") (decimal n) ++ actor_field p a

abbrev pub line_end : Form → List ℕ
line_end form.Text = codes "\n"
line_end form.Json = codes "}\n"

-- the line of the n-th actor that was asked to step
abbrev pub step_line : Form → ProgramShape → ℕ → Actor → List ℕ → List ℕ
step_line f p n a told = line_head f p n a ++ told ++ line_end f

-- what is told of a pick that does not step
abbrev pub idle_told : Form → List ℕ
idle_told form.Text = codes "does nothing"
idle_told form.Json = does_json (codes "nothing")

-- by a machine's step function
module _ {S : Type 0} (step : S → Actor → Option S) where
  -- an actor that has stepped, if it has
  abbrev pub stepper : Actor → Option S → List Actor
  stepper a None = []
  stepper a (Some t) = a ∷ []

  -- those of a list of actors that stepped, in their order
  abbrev pub steppers_by : List Actor → S → List Actor
  steppers_by [] s = []
  steppers_by (a ∷ rest) s = stepper a (step s a) ++ steppers_by rest (or_stay s (step s a))

  -- and by what is told, in a form, of the step that an actor makes from a state
  module _ (f : Form) (p : ProgramShape) (told : S → Actor → List ℕ) where
    -- a pick without a step has a line that says so, and an actor of a round without a step has none
    abbrev pub line_of : (is_pick : Bool) → ℕ → S → Actor → Option S → List ℕ
    line_of is_pick n s a (Some t) = step_line f p n a (told s a)
    line_of true n s a None = step_line f p n a (idle_told f)
    line_of false n s a None = []

    -- the lines of a list of actors, the first of which is the n-th that was asked
    abbrev pub lines_by : (is_pick : Bool) → ℕ → List Actor → S → List ℕ
    lines_by is_pick n [] s = []
    lines_by is_pick n (a ∷ rest) s =
        line_of is_pick n s a (step s a) ++ lines_by is_pick (n + 1) rest (or_stay s (step s a))

    -- the lines of the picks, and then of so many rounds
    abbrev pub steps_by : List Actor → (rounds : ℕ) → S → List ℕ
    steps_by picks rounds s =
        lines_by true 1 picks s ++ lines_by false (length picks
        + 1) (rounds_of rounds (actors_of p)) (plays_by step picks s)
