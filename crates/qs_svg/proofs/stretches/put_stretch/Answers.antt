use Rattle.qs_svg.proofs.Parts.{and_then, drawn, last_shapes}
use Rattle.qs_svg.proofs.stretches.put_stretch.Goals as goal

pub returns : goal.returns
returns c =
    let frame = rw (c.ticket_at-ticket.ensures.ticket, c.has_ended-ended.ensures.ended, c.from-place.ensures) at c.in_ok-put_frame.ensures.ok in
    record {
      ok = last_shapes _ _ _ (and_then (and_then (drawn frame) c.in_ok-put_symbols.ensures.ok) c.in_ok-put_more.ensures.ok)
          (rw (c.sent_for-sent.ensures.sent, c.from.ensures, c.from-place.ensures, c.queries_in.ensures.count) at c.put_syncs.ensures.ok);
    }
