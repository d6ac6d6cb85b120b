use Rattle.std.proofs.Common.{◌≡◌, ◌≤◌, ℕ, List, length}
use Rattle.qs_program.specs.declared.program.Declared.{Declared}
use Rattle.qs_plain.proofs.Names.{AreSound, ahead_of, work, load_left}
use Rattle.qs_plain.proofs.client.frames.Frames.leave.Given as goal

abbrev pub invariant-loop-frame : goal.invariant-loop-frame
invariant-loop-frame l = record {
  leaves : (ahead_of l.self.frames).leaves ≡ (ahead_of l.initial.self.frames).leaves;
  room : l.self.room ≡ l.initial.self.room;
  work : work l.self.frames ≤ work l.initial.self.frames;
  load : (h : ℕ) → load_left l.self.frames h ≤ load_left l.initial.self.frames h;
  sound : (objects : List Declared) (reserved : List ℕ) → AreSound objects reserved l.initial.self.frames → AreSound objects reserved l.self.frames;
}

abbrev pub decreases-loop-frame : goal.decreases-loop-frame
decreases-loop-frame l = length l.self.frames
