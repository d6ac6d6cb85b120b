-- A block alone: its statements run one after another, each request done at once.
use Rattle.std.specs.Prelude.{ℕ, zero, suc, Bool, true, false, if◌then◌else◌, ◌==◌, List, [], ◌∷◌, ◌++◌, Option, Some, None, slice_set, ℤ, pos}
use Rattle.qs_objects.specs.audit.Act.{State}
use Rattle.qs_objects.specs.audit.Journals.{after, answer}
use Rattle.qs_objects.specs.declared.Request.{Request}
use Rattle.qs_objects.specs.declared.held.Event.{Event}
use Rattle.qs_program.specs.audit.Statements.{Statements, end, command, query, assign, choose, again, leave}
use Rattle.qs_program.specs.audit.Values.{Locals, expr_value, test_value, request_of}

-- the objects' states, by their numbers
abbrev pub States : Type 0
States = ℕ → State

-- f with another value at n
abbrev pub put : {A : Type 0} → (ℕ → A) → ℕ → A → ℕ → A
put f n a m = if n == m then a else f m

-- a request that is answered with no reply gives 0
abbrev pub value_of : Option ℤ → ℤ
value_of None = pos 0
value_of (Some v) = v

abbrev pub event : Request → Option ℤ → Event
event r v = record { request = r; reply = v }

-- the states after a request
abbrev pub states_after : States → Request → States
states_after st r = put st r.object (after (st r.object) r)

-- what statements did: their requests with the replies, whether a `leave` looks for its repeat, the variables and the
-- states
pub record Ending : Type 0 where
  pub trace : List Event
  pub left : Bool
  pub locals : Locals
  pub states : States

abbrev pub Runs : Type 0
Runs = Locals → States → Ending

abbrev pub ends : Bool → Runs
ends left l st = record { trace = []; left = left; locals = l; states = st }

abbrev pub with_trace : List Event → Ending → Ending
with_trace es o = record { trace = es ++ o.trace; left = o.left; locals = o.locals; states = o.states }

-- what comes next is run, unless a `leave` was
abbrev pub then_run : Ending → Runs → Ending
then_run o next = if o.left then o else with_trace o.trace (next o.locals o.states)

abbrev pub left_none : Ending → Ending
left_none o = record { trace = o.trace; left = false; locals = o.locals; states = o.states }

-- n turns of a repeat's body, which a `leave` ends
abbrev pub turns_run : ℕ → Runs → Runs
turns_run zero body l st = ends false l st
turns_run (suc n) body l st =
    let o = body l st in if o.left then left_none o else with_trace o.trace (turns_run n body o.locals o.states)

abbrev pub exec : Statements → Runs
exec end l st = ends false l st
exec (command c rest) l st =
    let r = request_of l c in with_trace (event r None ∷ []) (exec rest l (states_after st r))
exec (query x c rest) l st =
    let r = request_of l c in let v = answer (st r.object) r in
    with_trace (event r v ∷ []) (exec rest (slice_set l x (value_of v)) (states_after st r))
exec (assign x e rest) l st = exec rest (slice_set l x (expr_value l e)) st
exec (choose t has_else first other rest) l st =
    then_run (if test_value l t then exec first l st else exec other l st) (exec rest)
exec (again n body rest) l st = then_run (turns_run n (exec body) l st) (exec rest)
exec (leave rest) l st = ends true l st

pub record BlockResult : Type 0 where
  pub trace : List Event
  pub locals : Locals
  pub states : States

-- a block from these variables and states
abbrev pub solo : Statements → Locals → States → BlockResult
solo body l st = let o = exec body l st in record { trace = o.trace; locals = o.locals; states = o.states }
