use Rattle.std.proofs.Common.{◌∙◌, length, drop, ap}
use Rattle.std.proofs.lemmas.List.{take_rest}
use Rattle.qs_conditions.specs.Grammar.{first_place}
use Rattle.qs_conditions.specs.declared.fault.ConditionFault.TheVariants.{Form}
use Rattle.qs_conditions.proofs.reader.form_fault.Goals as goal

pub returns : goal.returns
returns c =
    let ts = c.args.signs.now in
    record {
      form = ap Form (c.first_place-place.ensures.exact ∙ ap (first_place (length c.args.text.now)) (take_rest ts c.saturating_sub.result ∙ ap (λ n. drop n ts) c.saturating_sub.ensures));
    }
