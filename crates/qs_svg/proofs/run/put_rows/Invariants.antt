-- The rows before this one are there.
use Rattle.qs_svg.proofs.Common.{shapes_up_to, Draws, row}
use Rattle.qs_svg.proofs.run.put_rows.Given as goal

abbrev pub invariant-loop-row : goal.invariant-loop-row
invariant-loop-row l = Draws (shapes_up_to l.row (row l.program l.played l.layout)) l.initial.out.items l.out.items
