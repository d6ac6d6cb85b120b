use Rattle.std.proofs.Common.{◌∙◌, ◌++◌, ◌∷◌, [], ap, subst}
use Rattle.qs_plain.proofs.Names.{turning, Stack, frame_of, Opens}
use Rattle.qs_plain.proofs.client.FrameMoves.{opened_none, opened_turn}
use Rattle.qs_plain.proofs.client.frames.Frames.open.Goals as goal

pub returns-in-Some-Turning-eq0-default-clause-cases : goal.returns-in-Some-Turning-eq0-default-clause-cases
returns-in-Some-Turning-eq0-default-clause-cases c =
    opened_none c.args.self.now.frames c.pop.new.self.frames c.in-Some-Turning-eq0-default.field-0-1.now
    (c.in-Some-Turning-eq0-default.ensures.cases.0 ∙ ap (λ f. c.pop.new.self.frames ++ frame_of f ∷ []) c.in-Some-Turning-eq0-default.field-0-is
    ∙ ap (λ n. c.pop.new.self.frames ++ turning n c.in-Some-Turning-eq0-default.field-0-1.now ∷ []) c.in-Some-Turning-eq0-default.field-0-0-test)

pub returns-in-Some-Turning-clause-cases : goal.returns-in-Some-Turning-clause-cases
returns-in-Some-Turning-clause-cases c =
    subst (Opens c.args.self.now.frames c.push.new.self.frames) c.as_slice.ensures.value
    (opened_turn c.args.self.now.frames c.pop.new.self.frames c.push.new.self.frames c.in-Some-Turning.left c.in-Some-Turning.body.now c.in-Some-Turning.left-test.1
    (c.in-Some-Turning.ensures.cases.0 ∙ ap (λ f. c.pop.new.self.frames ++ frame_of f ∷ []) c.in-Some-Turning.field-0-is)
    (ap (λ (s : Stack). s.frames) c.push.ensures.pushed))
