use Rattle.qs_serve.proofs.Dues.{values_after, values_are_no_input}
use Rattle.qs_serve.proofs.values.due_of_values_after.Goals as goal

pub returns-in-Ok-clause-due : goal.returns-in-Ok-clause-due
returns-in-Ok-clause-due g c =
    values_after c.args.format c.args.program.now c.args.sum.now c.args.limit c.args.clients.now c.in-Ok.all _ c.in-Ok.ensures.outcomes
    c.in-Ok.ensures.within c.due_of_values.ensures.due

pub returns-in-Ok-clause-not_input : goal.returns-in-Ok-clause-not_input
returns-in-Ok-clause-not_input g c =
    values_are_no_input c.args.format c.args.program.now c.args.sum.now c.in-Ok.all _ c.due_of_values.ensures.due
