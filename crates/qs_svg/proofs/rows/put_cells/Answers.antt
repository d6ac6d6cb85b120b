use Rattle.qs_svg.proofs.Common.{◌≡◌, ◌≤◌, ◌+◌, ◌∙◌, List, add-one, ap, ap₂, arith, length, State, replay, without_tickets, Entry, journal_of, state_at, ticket_at, whole_cell, rules}
use Rattle.qs_svg.proofs.Parts.{and_then, one_place_more}
use Rattle.qs_svg.proofs.StretchEnds.{fates_of_length, fates_of_stretch, stretch_ends, stretch_of}
use Rattle.qs_svg.proofs.rows.put_cells.Goals as goal

pub slice_bounds-put_cell-end-in-loop-column : goal.slice_bounds-put_cell-end-in-loop-column
slice_bounds-put_cell-end-in-loop-column c = search (rules, fates_of_length)

pub loop-column-preserved : goal.loop-column-preserved
loop-column-preserved c =
    let p = c.args.program.now in
    let run = c.args.played.now in
    let h = c.args.row in
    let i = c.loop-column.column in
    let inv = c.loop-column.invariant in
    let start = c.loop-column.start in
    let journal = c.journal_of-journal.ensures.journal ∙ ap (journal_of run) c.from.ensures in
    let ticket = c.ticket_at.ensures.ticket ∙ ap (ticket_at run) c.from-in-loop-column.ensures in
    let ends = stretch_ends run h i c.journal_of-journal.result.now c.ticket_at.result start c.entries_for-count.result c.min.result journal ticket
    inv.1 c.entries_for-count.ensures.count c.min.ensures in
    let entries = stretch_of run h i c.journal_of-journal.result.now start (start + c.min.result) journal inv.1 ends in
    let fates = fates_of_stretch p run h i c.args.fates.now start (start + c.min.result) c.requires.fates inv.1 ends in
    let within : start + c.min.result ≤ length (journal_of run h) = omega (arith, c.min.ensures, inv.0, ap length journal) in
    let left : c.run_entries.new.object ≡ state_at p run h (i + 1) =
    rw add-one (c.run_entries.ensures.state ∙ ap₂ (λ (s : State) (es : List Entry). replay s (without_tickets es)) inv.3 entries) in (
      within,
      rw add-one ends,
      one_place_more (whole_cell p run c.args.layout h) i inv.2
          (and_then (rw (entries, fates) at c.in_ok-put_cell.ensures.ok) (rw (left, add-one) at c.in_ok-put_left_state.ensures.ok)),
      left,
    )
