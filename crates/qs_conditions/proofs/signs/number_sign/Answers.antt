use Rattle.std.proofs.Common.{◌∙◌, arith, ap, take}
use Rattle.std.proofs.lemmas.List.{take_min}
use Rattle.qs_script.proofs.tokens.Powers.{ten_mono}
use Rattle.qs_conditions.proofs.Lexer.{long_number, short_number}
use Rattle.qs_conditions.proofs.signs.number_sign.Goals as goal

pub returns-then-end-gt-MOST_DIGITS : goal.returns-then-end-gt-MOST_DIGITS
returns-then-end-gt-MOST_DIGITS c = record {
  exact = long_number c.args.place c.args.text.now (take c.min.result c.args.text.now) c.leading_number-value.result.1 (ap (λ k. take k c.args.text.now) c.min.ensures ∙ take_min 19 c.args.text.now) c.leading_number-value.ensures.end c.if-end-gt-MOST_DIGITS.true;
}

pub new-requires : goal.new-requires
new-requires c = record {
  small = omega (arith, c.leading_number-value.ensures.small, ten_mono c.leading_number-value.result.1 18 c.if-end-gt-MOST_DIGITS.false);
}

pub returns : goal.returns
returns c = record {
  exact = short_number c.args.place c.args.text.now (take c.min.result c.args.text.now) c.leading_number-value.result.1 c.new.result (ap (λ k. take k c.args.text.now) c.min.ensures ∙ take_min 19 c.args.text.now) c.leading_number-value.ensures.end c.if-end-gt-MOST_DIGITS.false (c.new.ensures.same ∙ c.leading_number-value.ensures.value);
}
