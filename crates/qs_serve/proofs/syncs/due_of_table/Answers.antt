use Rattle.qs_serve.proofs.SyncDues.{table_due, table_is_no_input}
use Rattle.qs_serve.proofs.syncs.due_of_table.Goals as goal

pub returns-in-Ok-clause-due : goal.returns-in-Ok-clause-due
returns-in-Ok-clause-due c =
    table_due c.args.format c.args.program.now c.args.clients.now c.in-Ok.table _ c.in-Ok.ensures.legal c.in-Ok.ensures.exact c.due_of_text.ensures.due

pub returns-in-Ok-clause-not_input : goal.returns-in-Ok-clause-not_input
returns-in-Ok-clause-not_input c = table_is_no_input c.args.format c.args.program.now c.in-Ok.table _ c.due_of_text.ensures.due
