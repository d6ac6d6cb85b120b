use Rattle.qs_svg.proofs.Common.{Puts, request_text, last, then}
use Rattle.qs_svg.proofs.words.put_entry.Goals as goal

pub returns : goal.returns
returns c =
    let request : Puts (request_text c.args.program.now c.args.entry.now.request) _ _ = record { is = c.in_ok-put_whole_request.ensures.ok } in
    record { ok = last _ _ _ (then request c.in_ok-put_reply.ensures.ok) (rw c.words_of_fate.ensures.words at c.put_word.ensures.ok) }
