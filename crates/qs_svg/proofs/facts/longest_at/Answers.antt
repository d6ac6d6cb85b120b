use Rattle.qs_svg.proofs.Common.{◌∙◌, List, add-one, ap₂, max, Entry, Ticket, entries_for}
use Rattle.qs_svg.proofs.facts.longest_at.Goals as goal

pub loop-column-preserved : goal.loop-column-preserved
loop-column-preserved c =
    let here = c.entries_for-count.ensures.count
    ∙ ap₂ (λ (t : Ticket) (j : List Entry). entries_for t j) c.ticket_at.ensures.ticket c.journal_of-journal.ensures.journal in
    rw add-one (c.greater-most.ensures.greater ∙ ap₂ (λ n m. max n m) c.loop-column.invariant here)
