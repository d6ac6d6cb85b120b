-- The traces of a client's blocks, by the blocks' numbers.
use Rattle.std.specs.Prelude.{◌≡◌, ◌<◌, ◌≤◌, ℕ, ◌-◌, List, [], ◌∷◌, ◌++◌, length, map, slice_index_or, slice_set}
use Rattle.qs_objects.specs.Sums.{total}
use Rattle.qs_objects.specs.declared.held.Event.{Event}

-- the events of a block so far, and how many more there may be
pub record TraceState : Type 0 where
  pub events : List Event
  pub room : ℕ

abbrev pub trace_state : List Event → ℕ → TraceState
trace_state es room = record { events = es; room = room }

abbrev pub empty_trace : ℕ → TraceState
empty_trace room = trace_state [] room

abbrev pub trace_at : List TraceState → ℕ → TraceState
trace_at ts k = slice_index_or ts k (trace_state [] 0)

abbrev pub events_of : List TraceState → List (List Event)
events_of ts = map (λ (t : TraceState). t.events) ts

abbrev pub with_last_event : TraceState → Event → TraceState
with_last_event t e = trace_state (t.events ++ e ∷ []) (t.room - 1)

-- with an event at the end of a block's trace
abbrev pub noted_at : List TraceState → ℕ → Event → List TraceState
noted_at ts k e = slice_set ts k (with_last_event (trace_at ts k) e)

-- no later block has events
abbrev pub AreEmptyAfter : List TraceState → ℕ → Type 0
AreEmptyAfter ts k = (j : ℕ) → k < j → (trace_at ts j).events ≡ []

-- rows of events, each with what is left of its room
abbrev pub with_rooms : List (List Event) → List ℕ → List TraceState
with_rooms (es ∷ rows) (n ∷ rooms) = trace_state es (n - length es) ∷ with_rooms rows rooms
with_rooms _ _ = []

-- how many events more there may be in each trace
abbrev pub rooms_left : List TraceState → List ℕ
rooms_left ts = map (λ (t : TraceState). t.room) ts

-- each row has a room, and what is left of all rooms together is there
pub record HaveRoom (rows : List (List Event)) (rooms : List ℕ) (room : ℕ) : Type 0 where
  pub many : length rooms ≡ length rows
  pub whole : total (rooms_left (with_rooms rows rooms)) ≤ room
