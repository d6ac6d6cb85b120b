use Rattle.std.proofs.Common.{◌∙◌, sym}
use Rattle.qs_line.specs.Line.{request_of}
use Rattle.qs_serve.proofs.AskedDues.{due_alone}
use Rattle.qs_serve.proofs.alone.due_of_text_alone.Goals as goal

pub returns-in-Ok : goal.returns-in-Ok
returns-in-Ok c = record {
  due = due_alone (request_of c.args.settings) (request_of c.in-Ok.settings) c.args.text.now c.in-Ok.it.lines c.in-Ok.it.program
      c.due_of_program.result c.in-Ok.ensures.whole c.in-Ok.ensures.program
      (sym c.takes_threads.ensures.takes ∙ c.if-takes_threads.false) c.due_of_program.ensures.due;
}
