use Rattle.std.proofs.Common.{arith, ◌∙◌}
use Rattle.qs_plain.proofs.client.frames.Frames.settle.Goals as goal

pub returns-in-Some-clause-sound : goal.returns-in-Some-clause-sound
returns-in-Some-clause-sound c = λ objects reserved sound. c.in-Some.ensures.sound objects reserved (c.moves.invariant.sound objects reserved sound)

pub moves-preserved : goal.moves-preserved
moves-preserved c = record {
  same = c.moves.invariant.same ∙ c.in_default.ensures.moves;
  room = c.advance.ensures.room ∙ c.moves.invariant.room;
  load = λ h. omega (arith, c.moves.invariant.load h, c.in_default.ensures.load h);
  sound = λ objects reserved sound. (c.in_default.ensures.sound objects reserved (c.moves.invariant.sound objects reserved sound)).0;
}
