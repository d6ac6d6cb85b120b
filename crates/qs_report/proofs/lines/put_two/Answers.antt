use Rattle.std.proofs.Common.{◌++◌, ◌∷◌, [], sym, ap, ◌∙◌, ◌+◌, ◌/◌, ◌%◌, arith}
use Rattle.std.proofs.lemmas.Fmt.{decimal_digit}
use Rattle.qs_report.proofs.Digits.{last_digit}
use Rattle.qs_report.proofs.lines.put_two.Goals as goal

pub returns-then-number-lt10-clause-items : goal.returns-then-number-lt10-clause-items
returns-then-number-lt10-clause-items c = c.put_digit.ensures.items ∙ ap (λ l. c.args.out.now.items ++ l) (sym (decimal_digit c.args.number (omega (arith, c.if-number-lt10.true))))

pub returns-else-number-lt10-clause-items : goal.returns-else-number-lt10-clause-items
returns-else-number-lt10-clause-items c =
    let n = c.args.number in
    c.put_digit-else-number-lt10-2.ensures.items ∙ ap (λ l. l ++ ((48 + n % 10) ∷ [])) c.put_digit-else-number-lt10.ensures.items
    ∙ last_digit n c.args.out.now.items ((48 + n / 10) ∷ []) (omega (arith, c.if-number-lt10.false)) (omega (arith, c.requires.few)) (decimal_digit (n / 10) (omega (arith, c.requires.few)))
