-- The names in the bands before this one are there.
use Rattle.qs_svg.proofs.Common.{shapes_up_to, Draws, row_name}
use Rattle.qs_svg.proofs.rows.put_row_names.Given as goal

abbrev pub invariant-loop-band : goal.invariant-loop-band
invariant-loop-band l = Draws (shapes_up_to l.band (row_name l.program l.layout l.row)) l.initial.out.items l.out.items
