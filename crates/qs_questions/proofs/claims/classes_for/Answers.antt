use Rattle.qs_questions.proofs.NamedStay.{classes_for}
use Rattle.qs_questions.proofs.claims.classes_for.Goals as goal

pub returns : goal.returns
returns c = record {
  classes =
      classes_for c.args.program.now c.args.condition.now _ _ c.named_clients.result c.named_clients.ensures.exact
      c.classes_of.ensures.all c.classes_apart.ensures.classes c.classes_apart.ensures.set_apart;
}
