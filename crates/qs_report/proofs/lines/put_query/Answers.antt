use Rattle.std.proofs.Common.{◌++◌, List, ℕ, codes, length, get_or, ap, ◌∙◌, ℤ, pos, FitsSigned, w64, Some, rules, arith}
use Rattle.std.proofs.lemmas.Int.{to_z-of_z}
use Rattle.std.specs.Fmt.{signed_decimal}
use Rattle.qs_report.proofs.Quick.{line_with_one, line_without, reply_behind}
use Rattle.qs_report.proofs.lines.put_query.Goals as goal

pub returns-in-empty-clause-items : goal.returns-in-empty-clause-items
returns-in-empty-clause-items c = λ is.
    let reply_of = λ (before : List ℕ). ap (λ z. before ++ codes ") = " ++ signed_decimal z ++ codes "\n") (to_z-of_z w64 c.args.reply c.ranges.reply) in
    line_without c.args.program.now c.args.request.now (Some c.args.reply) c.args.out.now.items _ _
    (omega (arith, ap length c.as_slice.ensures.numbers, c.in-empty.len_below)) c.put_head.ensures.items
    (c.put_reply.ensures.items ∙ reply_of c.put_head.new.out.items ∙ reply_behind c.put_head.new.out.items c.args.reply)

pub returns-in-len1-clause-items : goal.returns-in-len1-clause-items
returns-in-len1-clause-items c = λ is.
    let reply_of = λ (before : List ℕ). ap (λ z. before ++ codes ") = " ++ signed_decimal z ++ codes "\n") (to_z-of_z w64 c.args.reply c.ranges.reply) in
    let only : ℤ = get_or c.as_slice.result.now 0 (pos 0) in
    let fits : FitsSigned w64 only = search rules in
    let number = c.put_number.ensures.items ∙ ap (λ z. c.put_head-in-len1.new.out.items ++ signed_decimal z) (to_z-of_z w64 only fits ∙ ap (λ xs. get_or xs 0 (pos 0)) c.as_slice.ensures.numbers) in
    line_with_one c.args.program.now c.args.request.now (Some c.args.reply) c.args.out.now.items _ _ _
    (omega (arith, ap length c.as_slice.ensures.numbers, c.in-len1.len_at_least, c.in-len1.len_below))
    c.put_head-in-len1.ensures.items number (c.put_reply-in-len1.ensures.items ∙ reply_of c.put_number.new.out.items ∙ reply_behind c.put_number.new.out.items c.args.reply)
