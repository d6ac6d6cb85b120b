use Rattle.std.proofs.Common.{◌≡◌, ◌⊎◌, inl, inr, ap, arith}
use Rattle.qs_played.proofs.Names.{statements_of, leave}
use Rattle.qs_plain.specs.client.Frames.{rest}
use Rattle.qs_plain.proofs.client.FrameMoves.{repeats, load_left-push, repeats_sound, leaves_sound, chooses_sound, commands_sound, queries_sound, assigns_all_sound}
use Rattle.qs_plain.proofs.client.frames.Frames.begin.Goals.{then-is_met, else-is_met}
use Rattle.qs_plain.proofs.client.frames.Frames.begin.Goals as goal

pub returns-in-Repeat-clause-moves : goal.returns-in-Repeat-clause-moves
returns-in-Repeat-clause-moves c =
    rw (c.in-Repeat.is, c.push.ensures.pushed) (repeats c.args.self.now.frames c.set_aside-in-Repeat.new.self.frames c.in-Repeat.count c.in-Repeat.body (statements_of c.args.rest.now) c.args.locals.now c.set_aside-in-Repeat.ensures.aside)

pub returns-in-Leave-clause-load : goal.returns-in-Leave-clause-load
returns-in-Leave-clause-load c = λ h.
    rw (c.in-Leave.is, load_left-push c.args.self.now.frames (rest (leave (statements_of c.args.rest.now))) h)
    (omega (arith, c.leave.ensures.load h, c.set_aside-in-Leave.ensures.aside.load h))

pub returns-in-Command-clause-sound : goal.returns-in-Command-clause-sound
returns-in-Command-clause-sound c = λ objects reserved sound.
    commands_sound objects reserved c.args.self.now.frames c.set_aside.new.self.frames c.in-Command.call (statements_of c.args.rest.now) c.set_aside.ensures.aside (rw c.in-Command.is at sound)

pub returns-in-Query-clause-sound : goal.returns-in-Query-clause-sound
returns-in-Query-clause-sound c = λ objects reserved sound.
    queries_sound objects reserved c.args.self.now.frames c.set_aside-in-Query.new.self.frames c.in-Query.variable c.in-Query.call (statements_of c.args.rest.now) c.set_aside-in-Query.ensures.aside (rw c.in-Query.is at sound)

pub returns-in-Assign-clause-sound : goal.returns-in-Assign-clause-sound
returns-in-Assign-clause-sound c = λ objects reserved sound. (
  assigns_all_sound objects reserved c.args.self.now.frames c.set_aside-in-Assign.new.self.frames c.in-Assign.variable c.in-Assign.expr (statements_of c.args.rest.now) (statements_of c.assign_all.result.now) c.set_variable.new.locals c.assign_all.new.locals
      c.set_aside-in-Assign.ensures.aside c.assign_all.ensures.assigned (rw c.in-Assign.is at sound),
  tt,
)

pub returns-after-is_met-clause-sound : goal.returns-after-is_met-clause-sound
returns-after-is_met-clause-sound c = λ objects reserved sound.
    let which : (c.if-is_met.enter.now ≡ c.in-If.first) ⊎ (c.if-is_met.enter.now ≡ c.in-If.other) =
    elim c.if-is_met.branch [ then-is_met w ↦ inl (ap (λ b. b.now) w.enter-is) | else-is_met w ↦ inr (ap (λ b. b.now) w.enter-is) ] in (
      rw c.enter.ensures.entered
          (chooses_sound objects reserved c.args.self.now.frames c.set_aside-in-If.new.self.frames c.in-If.test c.in-If.has_else c.in-If.first c.in-If.other c.if-is_met.enter.now (statements_of c.args.rest.now) which c.set_aside-in-If.ensures.aside (rw c.in-If.is at sound)),
      tt,
    )

pub returns-in-Repeat-clause-sound : goal.returns-in-Repeat-clause-sound
returns-in-Repeat-clause-sound c = λ objects reserved sound. (
  rw c.push.ensures.pushed
      (repeats_sound objects reserved c.args.self.now.frames c.set_aside-in-Repeat.new.self.frames c.in-Repeat.count c.in-Repeat.body (statements_of c.args.rest.now) c.set_aside-in-Repeat.ensures.aside (rw c.in-Repeat.is at sound)),
  tt,
)

pub returns-in-Leave-clause-sound : goal.returns-in-Leave-clause-sound
returns-in-Leave-clause-sound c = λ objects reserved sound.
    (c.leave.ensures.sound objects reserved (leaves_sound objects reserved c.args.self.now.frames c.set_aside-in-Leave.new.self.frames (statements_of c.args.rest.now) c.set_aside-in-Leave.ensures.aside (rw c.in-Leave.is at sound)), tt)
