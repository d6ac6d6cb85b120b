use Rattle.std.proofs.Common.{◌≡◌, ◌≤◌, ℕ, List}
use Rattle.qs_program.specs.declared.program.Declared.{Declared}
use Rattle.qs_plain.proofs.Names.{AreSound, next_of, work, load_left}
use Rattle.qs_plain.proofs.client.frames.Frames.settle.Given as goal

abbrev pub invariant-moves : goal.invariant-moves
invariant-moves l = record {
  same : next_of l.initial.self.frames l.initial.locals ≡ next_of l.self.frames l.locals;
  room : l.self.room ≡ l.initial.self.room;
  load : (h : ℕ) → load_left l.self.frames h ≤ load_left l.initial.self.frames h;
  sound : (objects : List Declared) (reserved : List ℕ) → AreSound objects reserved l.initial.self.frames → AreSound objects reserved l.self.frames;
}

abbrev pub decreases-moves : goal.decreases-moves
decreases-moves l = work l.self.frames
