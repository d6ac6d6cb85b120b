-- The columns before this one are there.
use Rattle.qs_svg.proofs.Common.{shapes_up_to, Draws, column}
use Rattle.qs_svg.proofs.blocks.put_columns.Given as goal

abbrev pub invariant-loop-column : goal.invariant-loop-column
invariant-loop-column l = Draws (shapes_up_to l.column (column l.program l.played l.layout)) l.initial.out.items l.out.items
