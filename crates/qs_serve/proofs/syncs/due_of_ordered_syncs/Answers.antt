use Rattle.std.proofs.Common.{ap, sym, ◌∙◌, Ok}
use Rattle.qs_serve.proofs.SyncDues.{due_by_named}
use Rattle.qs_serve.proofs.syncs.due_of_ordered_syncs.Goals as goal

pub returns-in-Ok-clause-due : goal.returns-in-Ok-clause-due
returns-in-Ok-clause-due c =
    due_by_named c.args.format c.args.program.now c.args.list.now c.as_slice.result.now _
    (c.in-Ok.ensures.clients ∙ sym (ap (λ xs. Ok xs) c.as_slice.ensures.value)) c.due_of_table.ensures.due
