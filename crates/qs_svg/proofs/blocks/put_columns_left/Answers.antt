use Rattle.qs_svg.proofs.Common.{◌≡◌, ◌<◌, ap, arith, length, nat_lt, true, nat_tests}
use Rattle.qs_svg.proofs.Parts.{last_shape}
use Rattle.qs_svg.proofs.blocks.put_columns_left.Goals as goal

pub returns-then-count-gt-MOST_COLUMNS : goal.returns-then-count-gt-MOST_COLUMNS
returns-then-count-gt-MOST_COLUMNS c =
    let order = ap length c.order-count.ensures.value in
    let more : 64 < length c.args.played.now.order = omega (arith, c.if-count-gt-MOST_COLUMNS.true, order) in
    let test : nat_lt 64 (length c.args.played.now.order) ≡ true = grind (arith, nat_tests) in
    record { ok = rw test (last_shape _ _ _ _ (rw (c.order-count.ensures.value, c.column_edge-x.ensures.edge, c.band_edge-y.ensures.edge) at c.put_things.ensures.ok)) }
