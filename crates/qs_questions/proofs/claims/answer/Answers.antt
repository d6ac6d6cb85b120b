use Rattle.qs_alike.specs.Texts.{classes_in}
use Rattle.qs_questions.proofs.NamedStay.{changes_keep_sought}
use Rattle.qs_questions.proofs.claims.answer.Goals as goal

pub ask_watched-requires : goal.ask_watched-requires
ask_watched-requires g c = record {
  classes = c.classes_for-classes.ensures.classes.classes;
  blind =
      changes_keep_sought c.args.program.now c.args.claim.now (classes_in c.classes_for-classes.result)
      c.classes_for-classes.ensures.classes;
}

pub ask_throughout-requires-clause-blind : goal.ask_throughout-requires-clause-blind
ask_throughout-requires-clause-blind g c =
    changes_keep_sought c.args.program.now c.args.claim.now (classes_in c.classes_for-classes.result)
    c.classes_for-classes.ensures.classes
