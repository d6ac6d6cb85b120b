use Rattle.qs_svg.proofs.Common.{w64, to_z-of_z, last}
use Rattle.qs_svg.proofs.words.put_grid.Goals as goal

pub returns : goal.returns
returns c =
    let rows = rw (to_z-of_z w64 c.args.rows c.ranges.rows) at c.in_ok-put_size.ensures.ok in
    record { ok = last _ _ _ rows (rw (to_z-of_z w64 c.args.columns c.ranges.columns) at c.put_size-2.ensures.ok) }
