use Rattle.qs_line.specs.audit.Line.{run}
use Rattle.qs_serve.proofs.Dues.{due_by_report, report_is_no_input}
use Rattle.qs_serve.proofs.due.due_of_run.Goals as goal

pub returns-in-Ok-clause-due : goal.returns-in-Ok-clause-due
returns-in-Ok-clause-due g c =
    due_by_report (run c.args.style c.args.mode c.args.chunk) c.args.style _ c.in-Ok.outcome _
    (λ text e. (c.in-Ok.outcome, c.in-Ok.ensures.outcome, e)) c.due_of_outcome.ensures.due

pub returns-in-Ok-clause-not_input : goal.returns-in-Ok-clause-not_input
returns-in-Ok-clause-not_input g c = report_is_no_input c.args.style _ c.in-Ok.outcome _ c.due_of_outcome.ensures.due
