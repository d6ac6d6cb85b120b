-- The order of a run's tickets is one in which its blocks can be run one after another, each whole and alone.
use Rattle.std.specs.Prelude.{◌≡◌, ◌<◌, ℕ, true, length}
use Rattle.qs_objects.specs.audit.Parts.{IsFront}
use Rattle.qs_program.specs.audit.Program.{ProgramShape}
use Rattle.qs_program.specs.Sound.{IsSound}
use Rattle.qs_meaning.specs.audit.Serial.{IsLegal}
use Rattle.qs_played.specs.audit.Isolation.{ended_of, trace_of}
use Rattle.qs_played.specs.Isolation.{IsFitting, entry_of, serial_block}
use Rattle.qs_played.specs.audit.Played.{Played}
use Rattle.qs_promises.specs.audit.Runs.{IsRun, Way}

-- The block at the i-th place of the order. It began with the variables that its client has there in the serial run;
-- its trace so far is a beginning of what it does there, and all of that if it is done.
pub record IsBlockInSeries (p : ProgramShape) (r : Played) (i : ℕ) : Type 0 where
  pub entry : entry_of r i ≡ (serial_block p r i).entry
  pub beginning : IsFront (trace_of r i) (serial_block p r i).trace
  pub done : ended_of r i ≡ true → trace_of r i ≡ (serial_block p r i).trace

-- What is shown fits the program: for each ticket an end mark, variables and a trace. The tickets of each client come
-- as its blocks 0, 1, 2 and so on. And each block is as in the serial run of this order.
pub record IsInSerialOrder (p : ProgramShape) (r : Played) : Type 0 where
  pub fits : IsFitting p r
  pub legal : IsLegal p r.order
  pub blocks : (i : ℕ) → i < length r.order → IsBlockInSeries p r i

-- for every checked program, in whichever way it is run
abbrev pub RunsAreInSerialOrder : Type 0
RunsAreInSerialOrder = (p : ProgramShape) → IsSound p → (way : Way) (r : Played) → IsRun p way r → IsInSerialOrder p r
