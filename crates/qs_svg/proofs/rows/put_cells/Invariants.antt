-- The stretches before this column are there, and the next one begins here, within the journal, in the object's state.
use Rattle.qs_svg.proofs.Common.{◌≡◌, ◌≤◌, length, shapes_up_to, Draws, journal_of, state_at, stretch_start, whole_cell}
use Rattle.qs_svg.proofs.rows.put_cells.Given as goal

abbrev pub invariant-loop-column : goal.invariant-loop-column
invariant-loop-column l =
    (l.start ≤ length (journal_of l.played l.row)) × (l.start ≡ stretch_start l.played l.row l.column)
    × Draws (shapes_up_to l.column (whole_cell l.program l.played l.layout l.row)) l.initial.out.items l.out.items
    × (l.object ≡ state_at l.program l.played l.row l.column)
