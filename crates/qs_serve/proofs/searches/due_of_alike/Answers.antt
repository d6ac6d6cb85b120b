use Rattle.qs_alike.specs.Texts.{classes_in}
use Rattle.qs_serve.proofs.OtherDues.{alike_counted, alike_places, due_by_alike}
use Rattle.qs_serve.proofs.searches.due_of_alike.Goals as goal

pub text_of_alike-requires : goal.text_of_alike-requires
text_of_alike-requires c =
    let k = classes_in c.classes_of-classes.result in
    record {
      places = alike_places c.args.program.now k c.in-Ok.all c.in-Ok.ensures.outcomes;
      counted = alike_counted c.args.program.now k c.in-Ok.all c.in-Ok.ensures.outcomes;
    }

pub returns-in-Ok-clause-due : goal.returns-in-Ok-clause-due
returns-in-Ok-clause-due c =
    due_by_alike c.args.format c.args.program.now (classes_in c.classes_of-classes.result) c.args.limit c.in-Ok.all c.text_of_alike.result _
    (c.classes_of-classes.ensures.classes, c.classes_of-classes.ensures.all) c.in-Ok.ensures.outcomes c.in-Ok.ensures.within
    c.text_of_alike.ensures.text
    c.due_of_bytes.ensures.text
