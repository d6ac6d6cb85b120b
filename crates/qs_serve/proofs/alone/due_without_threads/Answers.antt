use Rattle.qs_serve.proofs.LineDues.{due_by_line_alone, format_by_line_alone}
use Rattle.qs_serve.proofs.alone.due_without_threads.Goals as goal

pub returns-clause-due : goal.returns-clause-due
returns-clause-due c =
    due_by_line_alone _ c.read_line-line.result _ _ c.read_line-line.ensures.line c.due_of_answer.ensures.due c.due_of_answer.ensures.fault

pub returns-clause-format : goal.returns-clause-format
returns-clause-format c =
    format_by_line_alone _ c.read_line-line.result _ _ c.read_line-line.ensures.line c.due_of_answer.ensures.fault c.due_of_answer.ensures.format
