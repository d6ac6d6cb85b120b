use Rattle.std.proofs.Common.{ap, ◌∙◌, ◌∷◌, rules}
use Rattle.qs_program.specs.Views.{statements_of}
use Rattle.qs_plain.proofs.client.FrameMoves.{assigned_one}
use Rattle.qs_plain.proofs.client.frames.assign_all.Goals as goal

pub assignments-preserved : goal.assignments-preserved
assignments-preserved c =
    let later = c.in-Some-Assign-default.later.now in
    assigned_one (statements_of c.args.stmts.now) (statements_of c.assignments.rest.now) (statements_of later) c.args.locals.now c.assignments.locals c.set_variable.new.locals
    c.in-Some-Assign-default.variable c.in-Some-Assign-default.expr c.assignments.invariant
    (ap (λ xs. statements_of xs) c.in-Some-Assign-default.ensures.cases.0 ∙ ap (λ s. statements_of (s ∷ later)) c.in-Some-Assign-default.field-0-0-is)
    (search (rules, c.set_variable.ensures.set, c.value-value.ensures.value))
