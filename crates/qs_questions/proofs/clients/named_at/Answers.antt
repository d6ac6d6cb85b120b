use Rattle.qs_questions.proofs.NamedSets.{compare_named}
use Rattle.qs_questions.proofs.clients.named_at.Goals as goal

pub returns : goal.returns
returns c = record {
  named =
      compare_named c.args.program.now c.args.step.now _ _ _ c.named_in.result c.named_in-2.result c.in-Compare.is
      c.named_in.ensures.named c.named_in-2.ensures.named;
}
