use Rattle.qs_text.proofs.Parts.{last, then}
use Rattle.qs_svg.proofs.head.put_ticket_told.Goals as goal

pub returns : goal.returns
returns c =
    let block = rw (c.ticket_at.ensures.ticket, c.has_ended.ensures.ended) at c.in_ok-put_block_words.ensures.ok in
    record {
      ok = last _ _ _ (then (then (then c.in_ok-put_word.ensures.ok block) c.in_ok-put_word-2.ensures.ok) (rw c.sync_objects.ensures.value at c.in_ok-put_reserved.ensures.ok)) c.put_word-3.ensures.ok;
    }
