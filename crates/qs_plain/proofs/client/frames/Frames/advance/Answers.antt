use Rattle.std.proofs.Common.{arith, ap, subst, ◌++◌, ◌∷◌, []}
use Rattle.qs_program.specs.Views.{statements_of}
use Rattle.qs_plain.proofs.Names.{rest, load_left, AreSound, IsSoundFrame}
use Rattle.qs_plain.proofs.client.FrameMoves.{AllByRecursion-popped, load_left-push}
use Rattle.qs_plain.proofs.client.frames.Frames.advance.Goals as goal

pub returns-in-None-split_first-clause-load : goal.returns-in-None-split_first-clause-load
returns-in-None-split_first-clause-load c = λ h.
    omega (arith, c.in-Some.ensures.cases.load h, load_left-push c.open.new.self.frames (rest (statements_of c.in-Some.stmts.now)) h)

pub returns-in-None-split_first-clause-sound : goal.returns-in-None-split_first-clause-sound
returns-in-None-split_first-clause-sound c = λ objects reserved sound.
    ((AllByRecursion-popped (IsSoundFrame objects reserved) c.open.new.self.frames _ (c.in-Some.ensures.cases.sound objects reserved sound)).0, tt)

pub returns-in-Some-split_first-clause-load : goal.returns-in-Some-split_first-clause-load
returns-in-Some-split_first-clause-load c = λ h.
    omega (
      arith,
      c.in-Some.ensures.cases.load h,
      c.begin.ensures.load h,
      ap (λ xs. load_left (c.open.new.self.frames ++ rest (statements_of xs) ∷ []) h) c.in-Some-split_first.ensures.cases.0,
    )

pub returns-in-Some-split_first-clause-sound : goal.returns-in-Some-split_first-clause-sound
returns-in-Some-split_first-clause-sound c = λ objects reserved sound.
    c.begin.ensures.sound objects reserved
    (subst (λ xs. AreSound objects reserved (c.open.new.self.frames ++ rest (statements_of xs) ∷ [])) c.in-Some-split_first.ensures.cases.0 (c.in-Some.ensures.cases.sound objects reserved sound))
