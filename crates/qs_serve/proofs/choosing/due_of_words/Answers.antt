use Rattle.std.proofs.Common.{◌∙◌, inl}
use Rattle.qs_serve.proofs.AskedDues.{due_by_asked, format_by_asked, started_by_asked, started_unbegun}
use Rattle.qs_serve.proofs.choosing.due_of_words.Goals as goal

pub returns-in-Ok-clause-due : goal.returns-in-Ok-clause-due
returns-in-Ok-clause-due g c =
    due_by_asked _ _ _ c.in-Ok.settings c.in-Ok.it.lines c.in-Ok.it.program c.due_chosen-due.result c.in-Ok.ensures.asked
    c.due_chosen-due.ensures.not_input c.due_chosen-due.ensures.due

pub returns-in-Ok-clause-started : goal.returns-in-Ok-clause-started
returns-in-Ok-clause-started g c =
    started_by_asked g.S.Starter.answers c.args.starter.now c.due_chosen-due.new.starter _ _ c.asked_by.new.input.has_failed
    c.in-Ok.settings c.in-Ok.it.lines c.in-Ok.it.program c.due_chosen-due.result c.in-Ok.ensures.asked
    c.due_chosen-due.ensures.started

pub returns-in-Err-clause-started : goal.returns-in-Err-clause-started
returns-in-Err-clause-started g c =
    started_unbegun g.S.Starter.answers c.args.starter.now c.args.starter.now _ _ _ c.in-Err.ensures.unbegun

pub returns-in-Ok-clause-format : goal.returns-in-Ok-clause-format
returns-in-Ok-clause-format g c =
    inl (c.format-format.ensures.format ∙ format_by_asked _ _ _ c.in-Ok.settings c.in-Ok.it.lines c.in-Ok.it.program c.in-Ok.ensures.asked)
