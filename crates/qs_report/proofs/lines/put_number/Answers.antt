use Rattle.std.proofs.Common.{◌++◌, ◌∷◌, [], ap, ◌∙◌, ◌+◌, arith, w64}
use Rattle.std.proofs.lemmas.Int.{to_z-of_z, ints}
use Rattle.std.specs.Int.RustNames.{unsigned_abs}
use Rattle.qs_text.proofs.Digits.{digit_text}
use Rattle.qs_report.proofs.lines.put_number.Goals as goal

pub returns-then-number-lt10-clause-items : goal.returns-then-number-lt10-clause-items
returns-then-number-lt10-clause-items c =
    let z = c.args.number in
    c.put_digit.ensures.items
    ∙ ap (λ w. c.args.out.now.items ++ (48 + unsigned_abs w) ∷ []) (to_z-of_z w64 z c.ranges.number)
    ∙ ap (λ l. c.args.out.now.items ++ l) (digit_text z c.requires.short.0 (omega (arith, ints, c.if-number-lt10.true)))
