use Rattle.std.proofs.Common.{◌∙◌, [], ap, sym}
use Rattle.std.specs.Option.{option_copied}
use Rattle.std.specs.Prelude.{unwrap_or}
use Rattle.std.proofs.lemmas.Option.{unwrap_or-slice_get}
use Rattle.qs_program.proofs.name_texts.variable_name.Goals as goal

pub returns-in-None : goal.returns-in-None
returns-in-None c = record {
  name = ap (λ o. unwrap_or (option_copied o) []) (sym c.in-None.is) ∙ ap (λ o. unwrap_or o []) c.name.ensures.value
      ∙ unwrap_or-slice_get c.args.variables.now c.args.number [];
}
