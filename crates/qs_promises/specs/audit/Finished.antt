-- A finished run holds each block of the program once, and leaves the objects as the serial run does.
use Rattle.std.specs.Prelude.{◌≡◌, ◌<◌, ℕ, true, length}
use Rattle.qs_program.specs.audit.Program.{ProgramShape}
use Rattle.qs_meaning.specs.audit.Configurations.{IsComplete, configuration_after}
use Rattle.qs_meaning.specs.audit.Solo.{States}
use Rattle.qs_played.specs.audit.Isolation.{ended_of, state_of}
use Rattle.qs_played.specs.audit.Played.{Played}

-- what a run shows of the program's objects are these states
abbrev pub ShowsStates : ProgramShape → Played → States → Type 0
ShowsStates p r states = (h : ℕ) → h < length p.objects → state_of r h ≡ states h

-- its order is legal and has each block once, each of them is done, and it shows the states that the blocks leave when
-- they run one after another in this order
pub record IsWholeRun (p : ProgramShape) (r : Played) : Type 0 where
  pub complete : IsComplete p r.order
  pub done : (i : ℕ) → i < length r.order → ended_of r i ≡ true
  pub states : ShowsStates p r (configuration_after p r.order).states
