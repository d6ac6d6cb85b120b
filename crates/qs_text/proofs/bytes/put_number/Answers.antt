use Rattle.std.proofs.Common.{◌++◌, pos, arith, ap, ◌∙◌, ◌+◌, ◌∷◌, [], ◌<ℤ◌, ◌≤ℤ◌, w64}
use Rattle.std.proofs.lemmas.Int.{to_z-of_z, ints}
use Rattle.std.specs.Int.RustNames.{unsigned_abs}
use Rattle.qs_text.proofs.Digits.{digit_text}
use Rattle.qs_text.proofs.bytes.put_number.Goals as goal

-- the text of a number of one digit
pub returns-then-len-capacity : goal.returns-then-len-capacity
returns-then-len-capacity c =
    let z = c.args.number in
    let low : pos 0 ≤ℤ z = omega (arith, ints, c.if-number-ge0.true) in
    let high : z <ℤ pos 10 = omega (arith, ints, c.if-number-lt10.true) in
    record { ok = c.push_reserved.ensures.items ∙ ap (λ w. c.args.out.now.items ++ (48 + unsigned_abs w) ∷ []) (to_z-of_z w64 z c.ranges.number) ∙ ap (λ w. c.args.out.now.items ++ w) (digit_text z low high) }
