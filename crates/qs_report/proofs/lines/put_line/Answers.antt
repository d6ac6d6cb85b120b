use Rattle.std.proofs.Common.{◌++◌, ap, sym, ◌∙◌, FitsSigned, w64, Some, rules}
use Rattle.std.proofs.lemmas.Int.{to_z-of_z}
use Rattle.qs_report.specs.Lines.{line_text}
use Rattle.qs_report.proofs.lines.put_line.Goals as goal

pub returns-in-None-clause-items : goal.returns-in-None-clause-items
returns-in-None-clause-items c = λ is.
    c.put_command.ensures.items is ∙ ap (λ r. c.args.out.now.items ++ line_text c.args.program.now c.args.event.now.request r) (sym c.in-None.is)

pub returns-in-Some-clause-items : goal.returns-in-Some-clause-items
returns-in-Some-clause-items c = λ is.
    let fits : FitsSigned w64 c.in-Some.reply = search rules in
    c.put_query.ensures.items is
    ∙ ap (λ z. c.args.out.now.items ++ line_text c.args.program.now c.args.event.now.request (Some z)) (to_z-of_z w64 c.in-Some.reply fits)
    ∙ ap (λ r. c.args.out.now.items ++ line_text c.args.program.now c.args.event.now.request r) (sym c.in-Some.is)
