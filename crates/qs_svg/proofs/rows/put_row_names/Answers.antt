use Rattle.qs_svg.proofs.Common.{◌≡◌, arith, row_name}
use Rattle.qs_svg.proofs.Parts.{one_place_more}
use Rattle.qs_svg.proofs.rows.put_row_names.Goals as goal

pub loop-band-preserved : goal.loop-band-preserved
loop-band-preserved c =
    one_place_more (row_name c.args.program.now c.args.layout c.args.row) c.loop-band.band c.loop-band.invariant c.in_ok-put_row_name.ensures.ok

pub returns : goal.returns
returns c = let all : c.loop-band.band ≡ c.args.bands = omega arith in record { ok = rw all at c.loop-band.invariant }
