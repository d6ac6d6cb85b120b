use Rattle.std.proofs.Common.{refl, ap, sym, ◌∙◌}
use Rattle.std.specs.Option.{option_or}
use Rattle.qs_questions.specs.Questions.{first_unknown_of}
use Rattle.qs_questions.proofs.UnknownPlaces.{at_compare, kept}
use Rattle.qs_questions.proofs.unknown.first_unknown_at.Goals as goal

pub returns-in-None : goal.returns-in-None
returns-in-None c = record {
  first =
      ap (λ t. option_or t c.first_unknown_of-in-None.result) (sym c.in-None.is)
      ∙ at_compare c.args.program.now c.args.step.now _ _ _ c.first_unknown_of.result c.first_unknown_of-in-None.result
      c.in-Compare.is c.first_unknown_of.ensures.first c.first_unknown_of-in-None.ensures.first;
}

pub returns-in_default-first_unknown_of : goal.returns-in_default-first_unknown_of
returns-in_default-first_unknown_of c =
    let right = first_unknown_of c.args.program.now c.in-Compare.right in
    record {
      first =
          kept c.first_unknown_of.result right c.in_default-first_unknown_of.not-None
          ∙ at_compare c.args.program.now c.args.step.now _ _ _ c.first_unknown_of.result right
          c.in-Compare.is c.first_unknown_of.ensures.first refl;
    }
