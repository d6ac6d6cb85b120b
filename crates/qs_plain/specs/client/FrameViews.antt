-- What the code's frames mean, and what their stack keeps.
use Rattle.std.specs.Prelude.{◌≡◌, ◌<◌, ◌≤◌, ◌⊎◌, ℕ, ◌+◌, List, length, slice_index_or, refl}
use Rattle.std.specs.Coded.{Coded, code_by, coded×, coded⊎, coded_list, coded_ℕ}
use Rattle.std.proofs.Common.{inl, inr}
use Rattle.qs_program.specs.audit.Statements.{Statements, end}
use Rattle.qs_program.specs.StatementsCode.{statements_code}
use Rattle.qs_program.specs.Views.{statements_of}
use Rattle.qs_plain.specs.client.Frames.{Frame, rest, turning, places_of}
use Rattle.qs_plain.specs.declared.client.frames.Frame as code
use Rattle.qs_plain.specs.declared.client.frames.Frame.TheVariants as c

abbrev pub frame_of : code.Frame → Frame
frame_of (c.Rest stmts) = rest (statements_of stmts.now)
frame_of (c.Turning left body) = turning left body.now

-- the frames, and how many there may be
pub record Stack : Type 0 where
  pub frames : List Frame
  pub room : ℕ

abbrev pub stack : List Frame → ℕ → Stack
stack fs room = record { frames = fs; room = room }

-- each frame with all that can stand above it has room
abbrev pub IsRoomy : List Frame → ℕ → Type 0
IsRoomy fs room = (i : ℕ) → i < length fs → i + places_of (slice_index_or fs i (rest end)) ≤ room

abbrev pub to : Frame → Statements ⊎ (ℕ × Statements)
to (rest s) = inl s
to (turning n body) = inr (n, body)

abbrev pub from : Statements ⊎ (ℕ × Statements) → Frame
from (inl s) = rest s
from (inr p) = turning p.0 p.1

pub from-to : (f : Frame) → from (to f) ≡ f
from-to (rest s) = refl
from-to (turning n body) = refl

abbrev pub frame_code : Coded Frame
frame_code =
    code_by (Statements ⊎ (ℕ × Statements)) (coded⊎ statements_code (coded× coded_ℕ statements_code)) to from from-to

abbrev pub stack_code : Coded Stack
stack_code =
    code_by (List Frame × ℕ) (coded× (coded_list frame_code) coded_ℕ) (λ s. (
      s.frames,
      s.room,
    )) (λ p. stack p.0 p.1) (λ _. refl)
