-- What is left of a block on its way, as data: for each list of statements that it stands in what is left of the list,
-- and for each repeat the turns that are left. The outermost comes first.
use Rattle.std.specs.Prelude.{ℕ, ◌+◌, ◌*◌, max, fold, sum_by, List}
use Rattle.qs_program.specs.audit.Statements.{Statements, end, command, query, assign, choose, again, leave}
use Rattle.qs_meaning.specs.audit.Interaction.{Done, Next, meaning}
use Rattle.qs_meaning.specs.Interaction.{turns}
use Rattle.qs_program.specs.audit.Loads.{load_of}

pub data Frame : Type 0 where
  rest : Statements → Frame
  turning : (left : ℕ) → (body : Statements) → Frame

-- what comes next, and what comes after the innermost repeat
pub record Ahead : Type 0 where
  pub next : Next
  pub leaves : Next

abbrev pub inside : Ahead → Frame → Ahead
inside a (rest s) = record { next = meaning s a.next a.leaves; leaves = a.leaves }
inside a (turning n body) = record { next = turns n (λ turn. meaning body turn a.next) a.next; leaves = a.next }

abbrev pub ahead_of : List Frame → Ahead
ahead_of fs = fold inside (record { next = Done; leaves = Done }) fs

-- what the frames do, by the variables
abbrev pub next_of : List Frame → Next
next_of fs = (ahead_of fs).next

-- how many frames can stand above the one of a list
abbrev pub above : Statements → ℕ
above end = 0
above (command c more) = above more
above (query x c more) = above more
above (assign x e more) = above more
above (choose t has_else first other more) = max (max (1 + above first) (1 + above other)) (above more)
above (again n body more) = max (2 + above body) (above more)
above (leave more) = above more

-- how many places a frame takes with all that can stand above it
abbrev pub places_of : Frame → ℕ
places_of (rest s) = 1 + above s
places_of (turning n body) = 2 + above body

-- how many quiet moves there are at most before the end
abbrev pub work_of : Statements → ℕ
work_of end = 0
work_of (command c more) = 1 + work_of more
work_of (query x c more) = 1 + work_of more
work_of (assign x e more) = 1 + work_of more
work_of (choose t has_else first other more) = 2 + max (work_of first) (work_of other) + work_of more
work_of (again n body more) = 2 + n * (2 + work_of body) + work_of more
work_of (leave more) = 1 + work_of more

abbrev pub frame_work : Frame → ℕ
frame_work (rest s) = 1 + work_of s
frame_work (turning n body) = 1 + n * (2 + work_of body)

abbrev pub work : List Frame → ℕ
work fs = sum_by frame_work fs

-- how many requests on an object can come
abbrev pub frame_load : ℕ → Frame → ℕ
frame_load h (rest s) = load_of s h
frame_load h (turning n body) = n * load_of body h

abbrev pub load_left : List Frame → ℕ → ℕ
load_left fs h = sum_by (frame_load h) fs
