use Rattle.qs_text.proofs.Parts.{last, then}
use Rattle.qs_json.proofs.tallies.put_end_head.Goals as goal

pub returns : goal.returns
returns c =
    let clients = rw (c.order.ensures.order, c.standing.ensures.standing) at c.in_ok-put_joined.ensures.ok in
    let listed = then (then c.in_ok-put_word.ensures.ok clients) c.in_ok-put_word-2.ensures.ok in
    record { ok = last _ _ _ (then c.in_ok-put_number_or_null.ensures.ok listed) (rw (c.from.ensures, c.times.ensures.times) at c.put_count.ensures.ok) }
