use Rattle.std.proofs.Common.{◌++◌, ◌∷◌, [], ap, ◌∙◌, ◌+◌, ◌/◌, ◌%◌, arith}
use Rattle.qs_report.proofs.Digits.{last_digits}
use Rattle.qs_report.proofs.lines.put_six.Goals as goal

pub returns-else-number-lt100-clause-items : goal.returns-else-number-lt100-clause-items
returns-else-number-lt100-clause-items c =
    let n = c.args.number in
    c.put_digit-else-number-lt100.ensures.items
    ∙ ap (λ l. l ++ ((48 + n % 10) ∷ [])) (c.put_digit.ensures.items ∙ ap (λ l. l ++ ((48 + n / 10 % 10) ∷ [])) c.put_four.ensures.items)
    ∙ last_digits n c.args.out.now.items (omega (arith, c.if-number-lt100.false)) (omega (arith, c.requires.few))
