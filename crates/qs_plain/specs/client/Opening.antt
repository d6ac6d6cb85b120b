-- Frames from which a list of statements was taken off, frames to which one was put, and a list whose first assignments
-- were done.
use Rattle.std.specs.Prelude.{◌≡◌, ◌≤◌, ℕ, ◌+◌, List, [], ◌∷◌, ◌++◌, length}
use Rattle.qs_program.specs.audit.Statements.{Statements}
use Rattle.qs_program.specs.audit.Values.{Locals}
use Rattle.qs_program.specs.declared.program.Declared.{Declared}
use Rattle.qs_plain.specs.client.Asking.{AreSound}
use Rattle.qs_program.specs.audit.Loads.{load_of}
use Rattle.qs_program.specs.Sound.{IsSoundBody}
use Rattle.qs_meaning.specs.audit.Interaction.{Next, meaning}
use Rattle.qs_plain.specs.client.Frames.{Frame, rest, inside, ahead_of, next_of, work, work_of, above, load_left, frame_work, frame_load}

-- the frames that are left do the same as those before if the list is put to them
pub record Opens (fs gs : List Frame) (s : Statements) : Type 0 where
  pub next : (l : Locals) → next_of fs l ≡ next_of (gs ++ rest s ∷ []) l
  pub work : work (gs ++ rest s ∷ []) ≤ work fs
  pub load : (h : ℕ) → load_left (gs ++ rest s ∷ []) h ≤ load_left fs h
  pub sound : (objects : List Declared) (reserved : List ℕ) → AreSound objects reserved fs
      → AreSound objects reserved (gs ++ rest s ∷ [])

-- the frames with the list do the same as with one frame more
pub record IsAside (fs gs : List Frame) (s : Statements) : Type 0 where
  pub ahead : ahead_of gs ≡ inside (ahead_of fs) (rest s)
  pub many : length gs ≤ length fs + 1
  pub work : work gs ≤ work fs + frame_work (rest s)
  pub load : (h : ℕ) → load_left gs h ≡ load_left fs h + frame_load h (rest s)
  pub sound : (objects : List Declared) (reserved : List ℕ) → AreSound objects reserved (fs ++ rest s ∷ [])
      → AreSound objects reserved gs

-- what is left of a list after some assignments does what the list does before them
pub record Assigns (s : Statements) (l : Locals) (t : Statements) (m : Locals) : Type 0 where
  pub next : (next leaves : Next) → meaning s next leaves l ≡ meaning t next leaves m
  pub above : above t ≡ above s
  pub work : work_of t ≤ work_of s
  pub load : (h : ℕ) → load_of t h ≡ load_of s h
  pub sound : (objects : List Declared) (reserved : List ℕ) → IsSoundBody objects reserved s
      → IsSoundBody objects reserved t
