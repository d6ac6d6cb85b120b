use Rattle.qs_svg.proofs.Common.{◌≡◌, ◌/◌, arith, nat_lt, true, nat_tests, last}
use Rattle.qs_svg.proofs.pieces.put_squeezed.Goals as goal

pub returns-in_ok-put_count : goal.returns-in_ok-put_count
returns-in_ok-put_count c =
    let wide : nat_lt (c.args.width / 7) c.args.characters ≡ true = grind (arith, nat_tests) in
    record { ok = rw wide (last _ _ _ (rw c.from.ensures at c.in_ok-put_count.ensures.ok) c.put_word.ensures.ok) }
