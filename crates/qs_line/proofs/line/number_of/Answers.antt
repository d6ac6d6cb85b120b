use Rattle.std.proofs.Common.{◌∙◌, arith, sym}
use Rattle.qs_line.proofs.Numbers.{parsed_within, unparsed_within}
use Rattle.qs_line.proofs.line.number_of.Goals as goal

pub returns-in_err-number : goal.returns-in_err-number
returns-in_err-number c = record {
  number = c.from_residual.ensures
      ∙ sym (unparsed_within 32 1 c.args.most c.args.text.now c.parse.result (omega arith) c.parse.ensures.value.0 (sym c.ok.ensures.value ∙ c.in_err-number.was));
}

pub returns-else-number-most : goal.returns-else-number-most
returns-else-number-most c = record {
  number = parsed_within 1 c.args.most c.in_ok-number.number c.args.text.now c.parse.result c.parse.ensures.value.0 (sym c.ok.ensures.value ∙ c.in_ok-number.was)
      (omega (arith, c.if-number-eq0.false)) (omega (arith, c.if-number-most.false));
}
