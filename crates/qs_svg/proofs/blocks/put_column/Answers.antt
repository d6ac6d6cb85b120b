use Rattle.qs_svg.proofs.Parts.{last_shape, last_shapes}
use Rattle.qs_svg.proofs.blocks.put_column.Goals as goal

pub returns : goal.returns
returns c = record {
  ok = last_shapes _ _ _ (rw (c.ticket_at-ticket.ensures.ticket, c.from-place.ensures) at c.in_ok-put_names.ensures.ok)
      (last_shape _ _ _ _ (rw (c.ticket_at-ticket.ensures.ticket, c.has_ended-ended.ensures.ended, c.first_row.ensures.row, c.last_row.ensures.row, c.sync_objects-objects.ensures.value, c.from-place.ensures) at c.put_line.ensures.ok));
}
