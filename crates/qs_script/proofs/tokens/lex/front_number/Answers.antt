use Rattle.std.proofs.Common.{◌∙◌, arith}
use Rattle.qs_script.specs.audit.tokens.Tokens.{is_digit}
use Rattle.qs_script.proofs.tokens.Lexemes.{front_digits, run_passes, digits_too_long, digits_short}
use Rattle.qs_script.proofs.tokens.lex.front_number.Goals as goal

pub returns-then-digits-gt-MOST_DIGITS-clause-exact : goal.returns-then-digits-gt-MOST_DIGITS-clause-exact
returns-then-digits-gt-MOST_DIGITS-clause-exact c =
    front_digits c.args.text.now c.split_at.result.0.now c.split_at.result.1.now c.run_end.result c.requires.some c.requires.not_letter c.requires.digit c.run_end.ensures.run c.split_at.ensures.front c.split_at.ensures.back
    ∙ digits_too_long c.split_at.result.0.now c.split_at.result.1.now (omega arith)

pub number_of-requires-clause-digits : goal.number_of-requires-clause-digits
number_of-requires-clause-digits c = rw (c.split_at.ensures.front, c.run_end.ensures.run) (run_passes is_digit c.args.text.now)

pub returns-clause-exact : goal.returns-clause-exact
returns-clause-exact c =
    rw (c.new.ensures.same, c.number_of.ensures.value)
    (front_digits c.args.text.now c.split_at.result.0.now c.split_at.result.1.now c.run_end.result c.requires.some c.requires.not_letter c.requires.digit c.run_end.ensures.run c.split_at.ensures.front c.split_at.ensures.back
    ∙ digits_short c.split_at.result.0.now c.split_at.result.1.now (omega arith))
