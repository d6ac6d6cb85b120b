use Rattle.qs_text.proofs.Parts.{last, then}
use Rattle.qs_json.proofs.runs.put_ticket.Goals as goal

pub returns : goal.returns
returns c = record { ok = last _ _ _ (then (then (rw (c.ticket_at.ensures.ticket, c.ended_at.ensures.ended) at c.in_ok-put_block.ensures.ok) c.in_ok-put_events_of.ensures.ok) c.in_ok-put_syncs.ensures.ok) c.put_word.ensures.ok }
