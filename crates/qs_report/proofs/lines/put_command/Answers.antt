use Rattle.std.proofs.Common.{◌++◌, length, get_or, ap, ◌∙◌, ℤ, pos, FitsSigned, w64, None, rules, arith}
use Rattle.std.proofs.lemmas.Int.{to_z-of_z}
use Rattle.std.specs.Fmt.{signed_decimal}
use Rattle.qs_report.proofs.Quick.{line_with_one, line_without}
use Rattle.qs_report.proofs.lines.put_command.Goals as goal

pub returns-in-empty-clause-items : goal.returns-in-empty-clause-items
returns-in-empty-clause-items c = λ is.
    line_without c.args.program.now c.args.request.now None c.args.out.now.items _ _
    (omega (arith, ap length c.as_slice.ensures.numbers, c.in-empty.len_below)) c.put_head.ensures.items c.put.ensures.items

pub returns-in-len1-clause-items : goal.returns-in-len1-clause-items
returns-in-len1-clause-items c = λ is.
    let only : ℤ = get_or c.as_slice.result.now 0 (pos 0) in
    let fits : FitsSigned w64 only = search rules in
    let number = c.put_number.ensures.items ∙ ap (λ z. c.put_head-in-len1.new.out.items ++ signed_decimal z) (to_z-of_z w64 only fits ∙ ap (λ xs. get_or xs 0 (pos 0)) c.as_slice.ensures.numbers) in
    line_with_one c.args.program.now c.args.request.now None c.args.out.now.items _ _ _
    (omega (arith, ap length c.as_slice.ensures.numbers, c.in-len1.len_at_least, c.in-len1.len_below))
    c.put_head-in-len1.ensures.items number c.put-in-len1.ensures.items
