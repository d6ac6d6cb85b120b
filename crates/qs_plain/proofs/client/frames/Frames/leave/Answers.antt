use Rattle.std.proofs.Common.{arith, ap, sym, ◌∙◌}
use Rattle.qs_plain.proofs.Names.{Ahead, frame_of}
use Rattle.qs_plain.proofs.client.FrameMoves.{popped_ahead, popped_work, popped_load, popped_sound}
use Rattle.qs_plain.proofs.client.frames.Frames.leave.Goals as goal

pub returns-in-Turning-clause-load : goal.returns-in-Turning-clause-load
returns-in-Turning-clause-load c = λ h. omega (arith, c.loop-frame.invariant.load h, popped_load c.loop-frame.self.frames c.pop.new.self.frames (frame_of c.in-Some.frame) h c.in-Some.ensures.cases.0)

pub loop-frame-preserved : goal.loop-frame-preserved
loop-frame-preserved c = record {
  leaves = sym (ap (λ (a : Ahead). a.leaves) (popped_ahead c.loop-frame.self.frames c.pop.new.self.frames (frame_of c.in-Some.frame) _ c.in-Some.ensures.cases.0 (ap frame_of c.in_default-frame.is))) ∙ c.loop-frame.invariant.leaves;
  room = c.in-Some.ensures.cases.1 ∙ c.loop-frame.invariant.room;
  work = omega (arith, c.loop-frame.invariant.work, popped_work c.loop-frame.self.frames c.pop.new.self.frames (frame_of c.in-Some.frame) c.in-Some.ensures.cases.0);
  load = λ h. omega (arith, c.loop-frame.invariant.load h, popped_load c.loop-frame.self.frames c.pop.new.self.frames (frame_of c.in-Some.frame) h c.in-Some.ensures.cases.0);
  sound = λ objects reserved before. (popped_sound objects reserved c.loop-frame.self.frames c.pop.new.self.frames _ _ c.in-Some.ensures.cases.0 (ap frame_of c.in_default-frame.is) (c.loop-frame.invariant.sound objects reserved before)).0;
}

pub returns-in-Turning-clause-sound : goal.returns-in-Turning-clause-sound
returns-in-Turning-clause-sound c = λ objects reserved before.
    (popped_sound objects reserved c.loop-frame.self.frames c.pop.new.self.frames _ _ c.in-Some.ensures.cases.0 (ap frame_of c.in-Turning.is) (c.loop-frame.invariant.sound objects reserved before)).0
